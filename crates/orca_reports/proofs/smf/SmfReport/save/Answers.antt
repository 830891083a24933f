use Rattle.std.proofs.Common.{◌≡◌, refl, sym, ◌∙◌, ap}
use Rattle.std.specs.Prelude.{Some, Err}
use Rattle.orca_course.proofs.DoingLemmas.{does_nothing}
use Rattle.orca_reports.proofs.DoneLemmas.{finished_done, finished_long, short_of}
use Rattle.orca_reports.proofs.smf.SmfReport.save.Goals as goal
use Rattle.orca_reports.proofs.smf.SmfReport.save.Goals.{in-Ok+in_ok-save-in-Ok, in-Err-TooLong, in-Err-Memory}

pub returns : goal.returns
returns g c = λ at hands.
    let song : c.self.inside.song ≡ Some c.in-Some.song = sym c.take.ensures.value ∙ c.in-Some.is
    in
    elim c.match-finish.branch [
      | in-Ok+in_ok-save-in-Ok w ↦
          rw (w.result-is, w.desk-is, c.take.ensures.after, ← c.self.view_is, song)
          (finished_done c.in-Some.song _ _ (short_of w.in-Ok.ensures.too_long.1)
          (w.as_slice.ensures.value ∙ w.in-Ok.ensures.file) w.in_ok-save-in-Ok.ensures)
      | in-Err-TooLong w ↦
          rw (w.result-is, w.desk-is, c.take.ensures.after, ← c.self.view_is, song)
          (finished_long c.in-Some.song _
          (w.in-Err-TooLong.ensures.too_long.0 (ap Err w.in-Err-TooLong.field-0-is)))
      | in-Err-Memory w ↦
          rw (w.result-is, w.desk-is) (does_nothing _ _ refl)
    ]
