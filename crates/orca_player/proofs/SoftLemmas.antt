-- Commands of a room that a full history does not end.
use Rattle.std.proofs.Common.{◌≡◌, ℕ, false, List, [], ◌∷◌, refl}
use Rattle.std.specs.Prelude.{Option, Some, None, Ok, Err, Result, replicate}
use Rattle.orca_base.specs.declared.command.Command.{Command}
use Rattle.orca_base.specs.declared.command.Reply.{Reply}
use Rattle.orca_base.specs.declared.command.Rule.{Rule}
use Rattle.orca_base.specs.declared.command.Rule.TheVariants.{HistoryFull}
use Rattle.orca_concert.specs.Concerts.{Concert, after_cue, close_course, command_at, command_course, concert_course, cue_course, cues_course, final_course, halt_of, halted, last_course, obeyed_course, order_course, reported, saved_course}
use Rattle.orca_concert.specs.Manners.{Aside, silence}
use Rattle.orca_course.specs.Courses.{Course, afterwards, each, keeping, mapped, onward, onward_by}
use Rattle.orca_course.specs.Standings.{refusal_of}
use Rattle.orca_course.specs.declared.ending.Stop.{Stop}
use Rattle.orca_cues.specs.declared.source.Cue.{Cue}
use Rattle.orca_cues.specs.declared.source.Order.{Order}
use Rattle.orca_edit.specs.Obeying.{Obeyed, obey}
use Rattle.orca_reports.specs.Rescues.{Rescue, done_tells, one_more, recovery_manner}

-- a full history is passed over
pub soft_done : (answer : Result Reply Rule) (r : Rescue) → r.strict ≡ false
    → done_tells answer r ≡ silence (one_more r)
soft_done (Ok reply) r soft = refl
soft_done (Err HistoryFull) r soft = rw soft refl
soft_done (Err rule) r soft = refl

-- ---- an order

-- a course that drops the rest of its cue at most, by what follows from its end
record DropsOnly {E : Type 0} (after : Option E → Option Stop) (c : Course (Concert Rescue) E)
    : Type 0 where
  soft : c.state.kept.strict ≡ false
  goes : after c.ending ≡ None

drops_by : (refused : Option Rule) → after_cue (halt_of refused None) ≡ None
drops_by None = refl
drops_by (Some rule) = refl

told_soft : (command : Command) (o : Obeyed) (a : Aside Rescue) (s : Concert Rescue)
    → s.kept.strict ≡ false → a ≡ silence (one_more s.kept)
    → DropsOnly after_cue (halted (onward (obeyed_course recovery_manner command o s) (λ t. reported a t)))
unfolding onward mapped
told_soft command o a s soft is =
    rw is (record { soft = soft; goes = drops_by (refusal_of o.answer) })

order_soft : (line : ℕ) (order : Order) (s : Concert Rescue) → s.kept.strict ≡ false
    → DropsOnly after_cue (order_course recovery_manner line order s)
unfolding order_course command_course obey mapped onward
order_soft line order s soft =
    let command = command_at order s.standing.machine in
    let o = obey s.standing.machine command in
    told_soft command o (done_tells o.answer s.kept) s soft (soft_done o.answer s.kept soft)

-- ---- orders, one after another

onward_by_soft : {E : Type 0} (after : Option E → Option Stop) (end : Option E)
    (c : Course (Concert Rescue) E) (next : Concert Rescue → Course (Concert Rescue) E)
    → DropsOnly after c
    → ((t : Concert Rescue) → t.kept.strict ≡ false → DropsOnly after (next t))
    → DropsOnly after (onward_by end c next)
onward_by_soft after None c next drops more =
    let rest = more c.state drops.soft in record { soft = rest.soft; goes = rest.goes }
onward_by_soft after (Some halt) c next drops more = drops

onward_soft : {E : Type 0} (after : Option E → Option Stop)
    (c : Course (Concert Rescue) E) (next : Concert Rescue → Course (Concert Rescue) E)
    → DropsOnly after c
    → ((t : Concert Rescue) → t.kept.strict ≡ false → DropsOnly after (next t))
    → DropsOnly after (onward c next)
unfolding onward
onward_soft after c next drops more = onward_by_soft after c.ending c next drops more

orders_soft : (line : ℕ) (orders : List Order) (s : Concert Rescue) → s.kept.strict ≡ false
    → DropsOnly after_cue (each (order_course recovery_manner line) orders s)
unfolding each
orders_soft line [] s soft = record { soft = soft; goes = refl }
orders_soft line (order ∷ orders) s soft =
    let c = order_course recovery_manner line order s in
    onward_soft after_cue c (each (order_course recovery_manner line) orders)
    (order_soft line order s soft) (orders_soft line orders)

-- ---- cues

-- a course that goes on
pub record GoesSoft (c : Course (Concert Rescue) Stop) : Type 0 where
  pub soft : c.state.kept.strict ≡ false
  pub goes : c.ending ≡ None

cue_soft : (cue : Cue) (s : Concert Rescue) → s.kept.strict ≡ false
    → GoesSoft (cue_course recovery_manner cue s)
unfolding cue_course mapped
cue_soft cue s soft =
    let drops = orders_soft cue.line (replicate cue.times cue.order) s soft in
    record { soft = drops.soft; goes = drops.goes }

cues_soft : (cues : List Cue) (s : Concert Rescue) → s.kept.strict ≡ false
    → GoesSoft (cues_course recovery_manner cues s)
unfolding cues_course each onward
cues_soft [] s soft = record { soft = soft; goes = refl }
cues_soft (cue ∷ cues) s soft =
    let first = cue_soft cue s soft in
    let rest = cues_soft cues (cue_course recovery_manner cue s).state first.soft in
    rw first.goes (record { soft = rest.soft; goes = rest.goes })

last_soft : (end : Option Stop) (s : Concert Rescue) → end ≡ None
    → (last_course recovery_manner end s).ending ≡ None
unfolding last_course final_course close_course saved_course afterwards keeping onward mapped
last_soft end s none = rw none refl

-- so nothing ends them
pub concert_soft : (cues : List Cue) (s : Concert Rescue) → s.kept.strict ≡ false
    → (concert_course recovery_manner cues s).ending ≡ None
unfolding concert_course afterwards
concert_soft cues s soft =
    last_soft (cues_course recovery_manner cues s).ending _ (cues_soft cues s soft).goes
