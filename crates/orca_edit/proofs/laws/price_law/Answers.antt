use Rattle.orca_edit.proofs.PriceLemmas.{change_price-same, charge-reply, piece_at-agree, piece_at-end, price-same, total-agree, total-none, total-one, total-split, touched-same}
use Rattle.orca_edit.proofs.laws.price_law.Goals as goal

pub returns-clause-touched : goal.returns-clause-touched
returns-clause-touched c = touched-same

pub returns-clause-change : goal.returns-clause-change
returns-clause-change c = change_price-same

pub returns-clause-price : goal.returns-clause-price
returns-clause-price c = price-same

pub returns-clause-end : goal.returns-clause-end
returns-clause-end c = piece_at-end

pub returns-clause-split : goal.returns-clause-split
returns-clause-split c = total-split

pub returns-clause-one : goal.returns-clause-one
returns-clause-one c = total-one

pub returns-clause-none : goal.returns-clause-none
returns-clause-none c = total-none

pub returns-clause-pieces : goal.returns-clause-pieces
returns-clause-pieces c = piece_at-agree

pub returns-clause-totals : goal.returns-clause-totals
returns-clause-totals c = total-agree

pub returns-clause-reply : goal.returns-clause-reply
returns-clause-reply c = charge-reply
