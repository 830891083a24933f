use Rattle.orca_web.proofs.HearingLemmas.{hearing_then, no_keys}
use Rattle.orca_web.proofs.incoming.Incoming.await_keys.Goals as goal

pub returns-in-Ok-false-clause-heard : goal.returns-in-Ok-false-clause-heard
returns-in-Ok-false-clause-heard g c =
    hearing_then _ _ _ _ c.loop.self _ c.loop.invariant.heard c.advance.ensures.heard

pub returns-in-Err-clause-heard : goal.returns-in-Err-clause-heard
returns-in-Err-clause-heard g c =
    hearing_then _ _ _ _ c.loop.self _ c.loop.invariant.heard c.advance.ensures.heard

pub returns-then-not-is_empty-3-clause-heard : goal.returns-then-not-is_empty-3-clause-heard
returns-then-not-is_empty-3-clause-heard g c =
    hearing_then _ _ _ _ c.loop.self c.advance.new.self c.loop.invariant.heard c.advance.ensures.heard

pub loop-preserved : goal.loop-preserved
loop-preserved g c = record {
  heard = hearing_then _ _ _ _ c.loop.self _ c.loop.invariant.heard c.advance.ensures.heard;
  none = no_keys _ _ _ c.as_slice-in-loop-2.ensures.bytes c.is_empty-in-loop-2.ensures c.if-not-is_empty-3.false;
  reply = c.advance.ensures.reply;
}
