-- What was done for words, a grid and its work.
use Rattle.std.proofs.Common.{◌≡◌, ◌≢◌, ℕ, List, [], ◌∷◌, refl, arith}
use Rattle.std.specs.Prelude.{Option, Some, None, IfSome, IfErr, IsOk, IsOkUnless, OnOk, Result, Ok, Err, unwrap_or}
use Rattle.orca_base.specs.Grids.{Sheet}
use Rattle.orca_concert.specs.Manners.{Manner}
use Rattle.orca_course.specs.Acts.Act.{Load, Save}
use Rattle.orca_course.specs.Standings.{Standing}
use Rattle.orca_course.specs.Worlds.{AreBegun, Calls, Called, World}
use Rattle.orca_course.specs.declared.refused.NoMemory.{NoMemory}
use Rattle.orca_cues.specs.Scripts.{any_script_of, commands_of_cues, seed_in}
use Rattle.orca_cues.specs.declared.fault.ScriptFault.{ScriptFault}
use Rattle.orca_cues.specs.declared.source.Cue.{Cue}
use Rattle.orca_grid.specs.GridText.{grid_text}
use Rattle.orca_grid.specs.declared.refusal.GridRefusal.{GridRefusal}
use Rattle.orca_grid.specs.declared.refusal.GridRefusal.TheVariants as refused
use Rattle.orca_reports.specs.Manners.{replay_manner}
use Rattle.orca_script.specs.Runs.{ScriptReadsBack, printed_script}
use Rattle.orca_words.specs.Requests.{Migration, Recover, Request, Setup, Work}
use Rattle.orca_player.specs.Doing.{Came, CameBy, KeepsTake, ReadsBack, refused_status, status_at}
use Rattle.orca_player.specs.Outlines.{preceded, asked_outline, attach_acts, concert, grid_outline, loading, made_outline, migrated, nothing, opening, performed, reading_outline, recorded_outline, request_outline, roomed, saved, script_in, stopped_run, work_outline, waiting}
use Rattle.orca_player.specs.Takes.{Take}
use Rattle.orca_player.specs.declared.status.Status.{Status}
use Rattle.orca_player.specs.declared.status.Status.TheVariants.{Done, FileFault, GridRefused, Memory}
use Rattle.orca_player.proofs.CameLemmas.{IsIdle, IsKind, attached, by_later, attaches-calls, by, by_failed, by_memory, kind_plain, calls_bare, came_bare, came_cut, came_none, came_plain}
use Rattle.orca_course.proofs.WorldLemmas.{lost_made, made_none}
use Rattle.orca_player.proofs.CourseLemmas.{polls-concert}
use Rattle.orca_player.proofs.RecoveryLemmas.{idle_recovery}

-- ---- lists of commands

pub kind_concert : {R : Type 0} {status : Status} (m : Manner R) (r : R) (cues : List Cue)
    (s : Standing) → IsKind (concert m r cues s) [] status
unfolding concert opening
kind_concert m r cues s = kind_plain (polls-concert m r cues s)

pub by_recorded : {R : Type 0} (take : Take) (m : Manner R) (r : R) (cues : List Cue)
    (s : Standing) {x y : World} {status : Status}
    → KeepsTake (recorded_outline take (concert m r cues s)) → Came (concert m r cues s) x status y
    → CameBy (λ b. recorded_outline take (concert m r cues s)) x status y
unfolding concert opening
by_recorded take m r cues s keeps came =
    by nothing (record {
      polls = polls-concert m r cues s;
      few = omega arith;
      sized = tt;
      reads = λ other. tt;
      takes = λ other. keeps;
    }) (came_plain (recorded_outline take (concert m r cues s)) came)

pub kind_read : {status : Status} (read : Result (List Cue) ScriptFault) (s : Standing)
    → IsKind (reading_outline (λ cues. concert replay_manner tt cues s) read) [] status
unfolding reading_outline
kind_read (Err fault) s = kind_plain refl
kind_read (Ok cues) s = kind_concert replay_manner tt cues s

-- ---- a grid

-- it asks nothing and paints nothing while nothing comes from the outside
idle-grid : (setup : Setup) (work : Work) (read : Result Sheet GridRefusal)
    → IsIdle (grid_outline setup work nothing read)
unfolding grid_outline work_outline roomed loading waiting concert opening
idle-grid setup work read =
    grind (arith, polls-concert)

pub grid_refused : {T : Type 0} (setup : Setup) (work : Work) (read : Result Sheet GridRefusal)
    (refusal : GridRefusal) (result : Result T GridRefusal) (x : World) → result ≡ Err refusal
    → IfErr read (λ named. result ≡ Err named) → OnOk read (IsOkUnless result refused.Memory)
    → CameBy (λ b. grid_outline setup work b read) x (refused_status refusal) x
unfolding grid_outline
grid_refused setup work read refused.Memory result x said is memory =
    by_memory (idle-grid setup work read) (came_none _ x)
grid_refused setup work read refusal result x said is memory =
    let found : read ≡ Err refusal = grind arith in
    by_failed [] (GridRefused refusal) (rw found refl) tt refl
    (made_none x, refl) (refl, refl, λ same. cc)

-- ---- a script in format 2

-- whatever was read, what was printed is the script of it
abbrev IsPrinted : Migration → List ℕ → List ℕ → Type 0
IsPrinted m text bytes =
    (cues : List Cue) → any_script_of text ≡ Ok cues
    → bytes ≡ printed_script (unwrap_or (seed_in text) m.seed) (commands_of_cues cues)

-- a text without a fault has cues
pub cues_in : (read : Result (List Cue) ScriptFault) → IsOk read → (cues : List Cue) × (read ≡ Ok cues)
cues_in read ok = grind arith

-- it was saved
pub script_saved : {T : Type 0} {done : T} (m : Migration) (text bytes : List ℕ) {x y : World}
    → IsOk (any_script_of text) → IsPrinted m text bytes
    → Called (Ok done) (Save m.out bytes) x y
    → Came (migrated m text) x (status_at Done y) y
unfolding migrated reading_outline
script_saved m text bytes ok printed called =
    let found = cues_in (any_script_of text) ok in
    let did = (rw (printed found.0 found.1) at called).called in
    rw (found.1) (came_bare (saved m.out (script_in m.seed text found.0)) Done refl refl tt did
    (lost_made did.0))

-- what is saved reads back, and nothing is saved of a text with a fault
pub script_reads : (m : Migration) (text : List ℕ)
    → ((cues : List Cue) → any_script_of text ≡ Ok cues
    → ScriptReadsBack (unwrap_or (seed_in text) m.seed) (commands_of_cues cues))
    → IfSome (migrated m text).given ReadsBack
unfolding migrated reading_outline
script_reads m text back = grind arith

pub kind_moved : {status : Status} (m : Migration) (text : List ℕ)
    → (status ≢ Memory → IfSome (migrated m text).given ReadsBack)
    → IsKind (migrated m text) [] status
unfolding migrated reading_outline
kind_moved m text reads = record {
  polls = grind arith;
  few = omega arith;
  sized = grind arith;
  reads = reads;
  takes = λ other ends. grind arith;
}

-- ---- words

-- memory was refused to an attach
pub attach_cut : (setup : Setup) (work : Work) {e : NoMemory} {x y : World}
    → AreBegun (attach_acts setup) e x y
    → CameBy (λ b. performed setup work (record { grid = None; brought = b })) x Memory y
unfolding performed loading
attach_cut setup work cut =
    let calls = attaches-calls setup in
    by_memory ((calls_bare (attach_acts setup) calls).polls _, tt)
    (came_cut (attach_acts setup) (preceded (Load setup.grid None ∷ []) (stopped_run FileFault)) calls cut)

-- the ports were attached
pub by_grid : {T : Type 0} {done : T} (setup : Setup) (work : Work) (grid : Option (List ℕ))
    {x y z : World} {status : Status} → Calls (attach_acts setup) (Ok done) x y
    → CameBy (λ b. loading setup.grid grid (λ text. grid_outline setup work b (grid_text text))) y
    status z
    → (grid : Option (List ℕ))
    × CameBy (λ b. performed setup work (record { grid = grid; brought = b })) x status z
unfolding performed
by_grid setup work grid calls did = (grid, by_later (attached setup calls) did)

pub idle-asked : (request : Option Request)
    → IsIdle (asked_outline request (record { grid = None; brought = nothing }))
unfolding request_outline performed loading made_outline concert opening
idle-asked (Some (Recover r)) = idle_recovery r
idle-asked request = grind (arith, polls-concert)
