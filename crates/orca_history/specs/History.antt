-- What a contract sees of a history.
use Rattle.orca_history.specs.declared.history.History.TheInside.{Inside}
use Rattle.orca_history.specs.Trails.{Trail}

abbrev pub trail_of : Inside → Trail
trail_of h = record {
  limit = h.limit;
  entries = h.entries.entries;
  tail = h.entries.tail;
  first = h.first;
  kept = h.ring;
}
