use Rattle.std.proofs.Common.{ℕ, ◌++◌, List, length, drop, ap, ◌∙◌, refl, arith}
use Rattle.std.proofs.lemmas.Result.{err_from_is_err_and}
use Rattle.orca_smf.proofs.Growing.{finished, joins}
use Rattle.orca_smf.proofs.Tunes.{end_bytes}
use Rattle.orca_smf.proofs.track.Track.finish.Goals as goal

-- the end is too much
pub returns-then-size-gt-MAX_TRACK_BYTES-clause-too_long : goal.returns-then-size-gt-MAX_TRACK_BYTES-clause-too_long
returns-then-size-gt-MAX_TRACK_BYTES-clause-too_long c =
    let j = joins c.self.inside c.args.self c.args.end end_bytes _ _ c.self.view_is
    c.self.invariant c.event_of-event.ensures c.as_slice-event.ensures.bytes in
    (λ _. omega (arith, j.size, j.grown), λ _. refl)

-- there is room, and no memory
pub returns-in_err-extend_from_slice-clause-too_long : goal.returns-in_err-extend_from_slice-clause-too_long
returns-in_err-extend_from_slice-clause-too_long c =
    let j = joins c.self.inside c.args.self c.args.end end_bytes _ _ c.self.view_is
    c.self.invariant c.event_of-event.ensures c.as_slice-event.ensures.bytes in
    let p = err_from_is_err_and c.from_residual.result c.from_residual.ensures.1 in
    rw (p.1, p.2) (λ e. absurd cc, λ long. absurd (omega (arith, j.size, j.grown)))

pub returns-clause-file : goal.returns-clause-file
returns-clause-file c =
    let event = c.as_slice-event.result.now in
    let file = c.extend_from_slice.new.self in
    let front = c.as_slice.result.now in
    let j = joins c.self.inside c.args.self c.args.end end_bytes _ _ c.self.view_is
    c.self.invariant c.event_of-event.ensures c.as_slice-event.ensures.bytes in
    let put = c.put_front.ensures
    ∙ ap (λ (x : List ℕ). front ++ drop (length front) x) c.deref_mut.ensures.value in
    finished c.self.inside c.args.self c.args.end _ file.len event file.items front
    c.put_front.new.file j c.in_ok-extend_from_slice.ensures.items
    (c.as_slice.ensures.bytes ∙ c.front.ensures) (omega (arith, j.size, j.grown)) put
    (omega (arith, file.ok.0))

-- there was room
pub returns-clause-too_long : goal.returns-clause-too_long
returns-clause-too_long c =
    let j = joins c.self.inside c.args.self c.args.end end_bytes _ _ c.self.view_is
    c.self.invariant c.event_of-event.ensures c.as_slice-event.ensures.bytes in
    (λ e. absurd cc, λ long. absurd (omega (arith, j.size, j.grown)))
