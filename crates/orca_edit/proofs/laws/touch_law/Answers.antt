use Rattle.orca_edit.proofs.TouchLemmas.{lists_places, pays_twice, touches_both, touches_few, touches_listed}
use Rattle.orca_edit.proofs.laws.touch_law.Goals as goal

pub returns-clause-places : goal.returns-clause-places
returns-clause-places c =
    let law = c.listing_law.ensures in
    lists_places law.fill law.put law.shift law.cut

pub returns-clause-listed : goal.returns-clause-listed
returns-clause-listed c = touches_listed

pub returns-clause-both : goal.returns-clause-both
returns-clause-both c = touches_both c.listing_law.ensures.cut

pub returns-clause-few : goal.returns-clause-few
returns-clause-few c =
    let law = c.listing_law.ensures in
    touches_few law.fill law.put law.shift

pub returns-clause-pays : goal.returns-clause-pays
returns-clause-pays c = pays_twice c.listing_law.ensures.fill c.listing_law.ensures.cut
