-- The line of the status, after what was done of an outline; and what caused the status.
use Rattle.std.proofs.Common.{◌≡◌, ◌≢◌, ◌⊎◌, inl, inr, ℕ, Bool, true, List, [], ◌∷◌, ◌++◌, refl, sym, ◌∙◌, ap, subst, append-nil, arith}
use Rattle.std.specs.Prelude.{Ok, Err, IsSomeAnd, Option, Some, None}
use Rattle.orca_base.specs.Ascii.{line_feed}
use Rattle.orca_base.specs.declared.port.Port.TheVariants as port
use Rattle.orca_base.specs.Ports.{Sent}
use Rattle.orca_course.specs.Acts.{gives}
use Rattle.orca_course.specs.Acts.Act.{Give}
use Rattle.orca_course.specs.Following.{Follows}
use Rattle.orca_course.specs.Worlds.{Called, IsSound, Made, Sated, World, file_failed, has_failed, inbox_failed}
use Rattle.orca_course.specs.declared.refused.NoMemory.{NoMemory}
use Rattle.orca_course.specs.declared.refused.NoMemory.TheVariants.{InSend, Elsewhere}
use Rattle.orca_course.proofs.ActLemmas.{lost_after}
use Rattle.orca_course.proofs.FollowLemmas.{ends_as_device, is_fair_to_device}
use Rattle.orca_course.proofs.WorldLemmas.{AreSafe, failed_made, lost_made, made_none, stored_made}
use Rattle.orca_notes.specs.Sound.{ends}
use Rattle.orca_live.specs.Paintings.{ShowsPerformance}
use Rattle.orca_words.specs.Requests.{Request, request_of}
use Rattle.orca_player.specs.Doing.{Came, CameSo, ClosesEarly, IsBlamed, IsWholeRun, Said, SaidSo, WasRefused, status_at, CameBy}
use Rattle.orca_player.specs.Outlines.{Outline, Heard, asked_outline, outline}
use Rattle.orca_player.specs.Running.{EndsAs, WasDone, IsLast, Went, IsCaused, Ran}
use Rattle.orca_player.specs.Statuses.{fault_sends, status_sends, status_text}
use Rattle.orca_player.specs.declared.status.Status.{Status}
use Rattle.orca_player.specs.declared.status.Status.TheVariants.{Done, Memory, Usage}
use Rattle.orca_player.proofs.ReadyLemmas.{outline_fine, request-other}
use Rattle.orca_player.proofs.LawLemmas.{shows_outline}

-- ---- the line was sent

-- each other status has a line
line-sends : (status : Status) → status ≢ Done → status_sends status ≡ fault_sends status
unfolding status_sends
line-sends status some = grind arith

abbrev line_sent : List ℕ → Sent
line_sent line = record { port = port.Fault; bytes = line }

pub said_line : {T : Type 0} (status : Status) (line : List ℕ) {done : T} {x y : World}
    → status ≢ Done → line ≡ status_text status ++ line_feed ∷ []
    → Called (Ok done) (Give (line_sent line)) x y → Said status status x y
said_line status line some is called = record {
  said = line_sent line ∷ [];
  made = called.called.0;
  so = inl (
    refl,
    ap (λ (line : List ℕ). line_sent line ∷ []) is ∙ sym (line-sends status some),
    called.called.1,
  );
  still = λ done. absurd (some done);
}

-- or its port refused memory
pub said_unsent : {T : Type 0} (status : Status) (line : List ℕ) {e : NoMemory} {x y : World}
    → status ≢ Done → line ≡ status_text status ++ line_feed ∷ []
    → Called {T = T} (Err e) (Give (line_sent line)) x y → e ≢ Elsewhere
    → Said status Memory x y
said_unsent status line {e = InSend} some is called other =
    let same = ap (λ (line : List ℕ). gives (line_sent line ∷ [])) is
    ∙ ap gives (sym (line-sends status some)) in
    record {
      said = [];
      made = called.called.0;
      so = inr (refl, inr (refl, record { status = status; unsent = rw same at called.called.1 }));
      still = λ done. absurd (some done);
    }
said_unsent status line {e = Elsewhere} some is called other = absurd (other refl)

-- a success has no line
pub said_none : (x : World) → Said Done Done x x
unfolding status_sends
said_none x = record {
  said = [];
  made = made_none x;
  so = inl (refl, refl, refl);
  still = λ done. (refl, refl);
}

-- ---- how it ended

done_by : {o : Outline} {x y : World} {status : Status} → IsWholeRun o x status y
    → WasDone o x status y
done_by {o = o} {x = x} {y = y} whole = record {
  ends = rw (whole.ending, whole.settles) (grind (arith, whole.blamed));
  made = whole.made;
  sated = whole.sated;
  follows = whole.follows;
  fair = λ hands. is_fair_to_device [] o.course.acts (whole.follows hands);
  silent = λ hands. sym (ends_as_device [] o.course.acts) ∙ whole.keys hands;
}

went_done : {o : Outline} {x y : World} (status : Status) → status ≢ Memory
    → WasDone o x status y → Went o x status y
unfolding Went
went_done status other done = grind arith

-- a run ends as its outline does, unless memory was refused
pub ends_by : (o : Outline) (status : Status) (x y : World) → Went o x status y
    → (status ≡ Memory) ⊎ IsSomeAnd o.course.ending (λ planned. EndsAs planned status)
unfolding Went
ends_by o status x y went = grind arith

-- ---- what was done, and what was sent at last

pub record Over (o : Outline) (x : World) (result : Status) (z : World) : Type 0 where
  pub over : World
  pub went : Went o x result over
  pub said : List Sent
  pub last : IsLast result said over z
  pub line : Made (gives said) 0 over z

-- memory was refused to the line, after all was done
closed_whole : {o : Outline} {x y : World} {status : Status} → IsWholeRun o x status y
    → ClosesEarly o x y
closed_whole {o = o} {x = x} {y = y} whole =
    let all = sym (append-nil o.course.acts) in
    record {
      begun = o.course.acts;
      left = [];
      splits = all;
      settled = whole.settled;
      closing = [];
      unsaid = [];
      closes = rw (← whole.stands, whole.silent) (grind arith);
      all = inl refl;
      made = subst (λ acts. Made acts o.course.bill x y) all whole.made;
      follows = λ hands. subst (Follows []) all (whole.follows hands);
    }

was_refused : {o : Outline} {x y : World} {status : Status} → CameSo o x status y
    → WasRefused o x y
was_refused (inl whole) = inr (inl (closed_whole whole))
was_refused (inr refused) = refused.1

over_refused : {o : Outline} {x y z : World} {result : Status} (said : List Sent)
    → result ≡ Memory → WasRefused o x y → IsLast Memory said y z → Made (gives said) 0 y z
    → Over o x result z
unfolding Went
over_refused {y = y} said is refused last made =
    rw is (record { over = y; went = refused; said = said; last = last; line = made })

last_by : (x y : World) (status : Status) (said : List Sent)
    → (said ≡ status_sends status) × Sated x y → IsLast status said x y
last_by x y status said is = grind (arith, is)

over_by : {o : Outline} {x y z : World} {status : Status} (result : Status) (said : List Sent)
    → Made (gives said) 0 y z → SaidSo status result said y z → CameSo o x status y
    → Over o x result z
over_by {x = x} {y = y} {z = z} {status = status} result said made (inl is) (inl whole) =
    rw is.0 (record {
      over = y;
      went = went_done status (grind (arith, whole.blamed, whole.settles)) (done_by whole);
      said = said;
      last = last_by y z status said (is.1, is.2);
      line = made;
    })
over_by result said made (inl is) (inr refused) =
    over_refused said (is.0 ∙ refused.0) refused.1
    (inl (is.1 ∙ ap status_sends refused.0, is.2)) made
over_by result said made (inr is) came =
    over_refused said is.0 (was_refused came)
    (elim is.1 [ inl line ↦ inl line | inr line ↦ inr line ]) made

pub over_came : {o : Outline} {x y z : World} {status result : Status} → Came o x status y
    → Said status result y z → Over o x result z
over_came {result = result} came said = over_by result said.said said.made said.so came.came

-- ---- sends alone touch neither the files nor the inbox

safe-gives : (sends : List Sent) → AreSafe (gives sends)
safe-gives [] = tt
safe-gives (sent ∷ sends) = safe-gives sends

lost-gives : (sends : List Sent) (b : Bool) → lost_after (gives sends) b ≡ b
lost-gives [] b = refl
lost-gives (sent ∷ sends) b = lost-gives sends b

-- ---- causes

caused_at : (planned : Status) (x y z : World) → IsSound x → IsBlamed planned x y
    → inbox_failed z ≡ inbox_failed y → file_failed z ≡ file_failed y
    → (has_failed y ≡ true → has_failed z ≡ true) → (status_at planned y ≡ Done → z ≡ y)
    → IsCaused (status_at planned y) z
caused_at planned x y z sound blamed lost unstored failed still = grind arith

caused_whole : {o : Outline} {x y z : World} {status : Status} → IsSound x
    → IsWholeRun o x status y → Said status status y z → IsCaused status z
caused_whole {x = x} {y = y} {z = z} sound whole said =
    rw whole.settles (caused_at whole.planned x y z sound whole.blamed
    (lost_made said.made ∙ lost-gives said.said (inbox_failed y))
    (stored_made (safe-gives said.said) said.made) (failed_made said.made)
    (λ is. (said.still (whole.settles ∙ is)).1))

pub said_result : {status result : Status} {y z : World} → Said status result y z
    → (result ≡ status) ⊎ (result ≡ Memory)
said_result said = elim said.so [ inl is ↦ inl is.0 | inr is ↦ inr is.0 ]

-- out of memory is free
pub caused_came : {o : Outline} {x y z : World} {status result : Status} → IsSound x
    → Came o x status y → Said status result y z
    → IsCaused result z
caused_came sound came said =
    elim (said_result said) [
      | inl is ↦ rw is (elim came.came [
        | inl whole ↦ caused_whole sound whole (rw is at said)
        | inr refused ↦ rw refused.0 tt
      ])
      | inr is ↦ rw is tt
    ]

-- ---- words that ask for nothing

pub ran_usage : (words : List (List ℕ)) {x z : World} {status : Status} → Ran words x status z
    → request_of words ≡ None → (status ≡ Usage) ⊎ (status ≡ Memory)
unfolding outline
ran_usage words {status = status} ran none =
    let ends = rw none at (ends_by (outline words ran.heard) status _ _ ran.went) in
    grind (arith, ends)

-- and no others end so
only : (request : Option Request) (h : Heard)
    → (Usage ≡ Memory)
    ⊎ IsSomeAnd (asked_outline request h).course.ending (λ planned. EndsAs planned Usage)
    → request ≡ None
only None h ends = refl
only (Some request) h ends = grind (arith, request-other request h)

pub ran_usage_only : (words : List (List ℕ)) {x z : World} {status : Status}
    → Ran words x status z → status ≡ Usage → request_of words ≡ None
unfolding outline
ran_usage_only words ran is =
    only _ ran.heard (ends_by (outline words ran.heard) Usage _ _ (rw is at ran.went))

-- ---- a run that can be done whole, and that meets no fault, is done whole

-- ---- all of it

pub ran_by : ShowsPerformance → (words : List (List ℕ)) (grid : Option (List ℕ)) {x y z : World}
    {status result : Status} → IsSound x
    → CameBy (λ brought. outline words (record { grid = grid; brought = brought })) x status y
    → Said status result y z → Ran words x result z
ran_by shows words grid {x = x} {status = status} {result = result} sound by said =
    let h : Heard = record { grid = grid; brought = by.brought } in
    let over = over_came by.came said in
    -- a status that is answered, and not for want of memory, was decided before
    let same : result ≢ Memory → status ≢ Memory =
    λ other memory. other (elim (said_result said) [ inl is ↦ is ∙ memory | inr is ↦ is ]) in
    record {
      heard = h;
      over = over.over;
      went = over.went;
      said = over.said;
      last = over.last;
      line = over.line;
      polls = by.polls;
      few = by.few;
      shows = shows_outline shows words h by.sized;
      reads = λ other. by.reads (same other);
      takes = λ other. by.takes (same other);
      complete = λ ready none.
          let fine = outline_fine words h ready in
          let ends = ends_by (outline words h) result _ _ over.went in
          let caused = caused_came sound by.came said in
          grind (arith, fine, ends, caused, none);
    }
