use Rattle.orca_patch.proofs.Inverse.{sheet-back, covers-cut, inside-listed, once-listed, sheet-no_change, covers-no_change}
use Rattle.orca_patch.proofs.laws.inverse_law.Goals as goal

pub returns : goal.returns
returns c = record {
  inverse = λ d tick slate. (sheet-back d tick slate, covers-cut d tick slate);
  listed = λ d slate. (inside-listed d slate, once-listed d slate);
  no_change = λ g tick sheet. (sheet-no_change g tick sheet, covers-no_change g tick);
}
