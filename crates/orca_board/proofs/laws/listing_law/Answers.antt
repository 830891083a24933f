use Rattle.orca_board.proofs.BlockPlaces.{length-places_in, length-cut_places}
use Rattle.orca_board.proofs.LawLemmas.{all-listed, cut-all_listed, fill-listed, put-listed, shift-listed}
use Rattle.orca_op.proofs.SlateFacts.{residue-of_sheet}
use Rattle.orca_board.proofs.laws.listing_law.Goals as goal

pub returns : goal.returns
returns c = record {
  listing = all-listed;
  fill = λ d area is. (fill-listed d area is, length-places_in area);
  put = put-listed;
  shift = shift-listed;
  cut = λ d to. (cut-all_listed d to, length-cut_places d to);
  begin = residue-of_sheet;
}
