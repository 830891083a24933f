use Rattle.std.proofs.Common.{[], ◌∷◌, ◌∙◌, ap, sym}
use Rattle.orca_smf.specs.declared.timed.Timed.{Timed}
use Rattle.orca_smf.specs.Recording.{Recorded}
use Rattle.orca_smf.specs.Songs.{last_tick}
use Rattle.orca_reports.proofs.SongLaw.{last-append, too_long}
use Rattle.orca_reports.proofs.recorder.Recorder.add.Goals as goal

pub returns-in-Ok-clause-too_long : goal.returns-in-Ok-clause-too_long
returns-in-Ok-clause-too_long c =
    rw (← c.self.view_is)
    (too_long c.self.inside.track _ _ _ c.args.bytes c.reached-tick.ensures c.self.invariant
    c.in-Ok.ensures.too_long)

pub returns-in-Err-clause-too_long : goal.returns-in-Err-clause-too_long
returns-in-Err-clause-too_long c =
    rw (← c.self.view_is)
    (too_long c.self.inside.track _ _ _ c.args.bytes c.reached-tick.ensures c.self.invariant
    c.in-Err.ensures.too_long)

pub invariant_of-self : goal.invariant_of-self
invariant_of-self c =
    let timed : Timed = record { tick = c.reached-tick.result; bytes = c.args.bytes } in
    sym (ap (λ (s : Recorded). last_tick 0 s.list) c.in-Ok.ensures.added
    ∙ last-append 0 c.self.inside.track.list (timed ∷ []))
