-- What is heard of the bytes that come, step by step.
use Rattle.std.proofs.Common.{◌≡◌, ◌==◌, Bool, true, length, ℕ, zero, suc, ◌<◌, List, [], ◌∷◌, ◌++◌, drop, slice_index_or, Option, None, Some, arith, refl, sym, ap, subst, ◌∙◌, append_assoc, append-nil}
use Rattle.std.specs.Io.KnownBytes.{Consumes, Keeps}
use Rattle.std.specs.List.{flat_map}
use Rattle.std.proofs.lemmas.Bool.Decides.{nat_tests}
use Rattle.std.proofs.KnownBytes.{Consumes-nil, Consumes-trans}
use Rattle.std.proofs.lemmas.List.Elements.{All-append, All-nil}
use Rattle.std.proofs.lemmas.Grind.{flat_map-append}
use Rattle.orca_web.specs.declared.incoming.Incoming.{Incoming}
use Rattle.orca_web.specs.Frames.{Frame, IsHeardFrame, TakesFrame, frame_bytes, keys_in}
use Rattle.orca_web.specs.Hearing.{Hears}

consumes_none : (was now : Option (List ℕ)) → Keeps was now → Consumes was now []
consumes_none None now keeps = tt
consumes_none (Some bytes) None keeps = absurd keeps
consumes_none (Some bytes) (Some left) keeps = sym keeps

-- nothing came, and nothing was given
pub hears_nothing : (old : Incoming) → Hears old old [] []
hears_nothing old = record {
  frames = [];
  heard = All-nil IsHeardFrame;
  bytes = append-nil old.input;
  keys = append-nil old.keys;
}

pub hears_same : (old new : Incoming) → new ≡ old → Hears old new [] []
hears_same old new same = subst (λ n. Hears old n [] []) (sym same) (hears_nothing old)

-- more bytes came
pub hears_more : (old mid new : Incoming) (came more : List ℕ) → Hears old mid came []
    → new.input ≡ mid.input ++ more → new.keys ≡ mid.keys → Hears old new (came ++ more) []
hears_more old mid new came more hears input keys = record {
  frames = hears.frames;
  heard = hears.heard;
  bytes = sym (append_assoc old.input came more) ∙ ap (λ b. b ++ more) hears.bytes
      ∙ append_assoc (flat_map frame_bytes hears.frames) mid.input more
      ∙ ap (λ b. flat_map frame_bytes hears.frames ++ b) (sym input);
  keys = hears.keys ∙ sym keys;
}

one_heard : (frame : Frame) → IsHeardFrame frame → (k : ℕ) (other : Frame) → k < 1
    → IsHeardFrame (slice_index_or (frame ∷ []) k other)
one_heard frame heard zero other few = heard
one_heard frame heard (suc k) other few = absurd (omega arith)

flat_and : (f : Frame → List ℕ) (frames : List Frame) (frame : Frame)
    → flat_map f (frames ++ frame ∷ []) ≡ flat_map f frames ++ f frame
flat_and f frames frame =
    flat_map-append f frames (frame ∷ []) ∙ ap (λ b. flat_map f frames ++ b) (append-nil (f frame))

-- the frame at the front was taken
pub hears_frame : (old mid new : Incoming) (came : List ℕ) → Hears old mid came [] → mid.keys ≡ []
    → (count : ℕ) × TakesFrame mid.input count new.keys × (new.input ≡ drop count mid.input)
    → Hears old new came []
hears_frame old mid new came hears none (count, takes, left) =
    let frame = takes.frame in
    let input : mid.input ≡ frame_bytes frame ++ new.input =
    takes.split ∙ ap (λ b. frame_bytes frame ++ b) (sym left) in
    record {
      frames = hears.frames ++ frame ∷ [];
      heard = All-append IsHeardFrame hears.frames (frame ∷ []) hears.heard (one_heard frame takes.heard);
      bytes = hears.bytes ∙ ap (λ b. flat_map frame_bytes hears.frames ++ b) input
          ∙ sym (append_assoc (flat_map frame_bytes hears.frames) (frame_bytes frame) new.input)
          ∙ ap (λ b. b ++ new.input) (sym (flat_and frame_bytes hears.frames frame));
      keys = ap (λ b. old.keys ++ b) (flat_and keys_in hears.frames frame)
          ∙ sym (append_assoc old.keys (flat_map keys_in hears.frames) (keys_in frame))
          ∙ ap (λ b. b ++ keys_in frame) (hears.keys ∙ none) ∙ sym takes.given;
    }

-- the first of the keys were given
pub hears_given : (old mid new : Incoming) (came given : List ℕ) → Hears old mid came []
    → new.input ≡ mid.input → mid.keys ≡ given ++ new.keys → Hears old new came given
hears_given old mid new came given hears input keys = record {
  frames = hears.frames;
  heard = hears.heard;
  bytes = hears.bytes ∙ ap (λ b. flat_map frame_bytes hears.frames ++ b) (sym input);
  keys = hears.keys ∙ keys;
}

-- nothing that waits has changed
pub hears_still : (old mid new : Incoming) (came : List ℕ) → Hears old mid came []
    → new.input ≡ mid.input → new.keys ≡ mid.keys → Hears old new came []
hears_still old mid new came hears input keys = hears_given old mid new came [] hears input (sym keys)

-- what was heard first, and then
pub hears_then : (old mid new : Incoming) (came more given : List ℕ) → Hears old mid came []
    → Hears mid new more given → Hears old new (came ++ more) given
hears_then old mid new came more given first second =
    let bytes = flat_map frame_bytes first.frames in
    let keys = flat_map keys_in first.frames in
    record {
      frames = first.frames ++ second.frames;
      heard = All-append IsHeardFrame first.frames second.frames first.heard second.heard;
      bytes = sym (append_assoc old.input came more) ∙ ap (λ b. b ++ more) first.bytes
          ∙ append_assoc bytes mid.input more ∙ ap (λ b. bytes ++ b) second.bytes
          ∙ sym (append_assoc bytes (flat_map frame_bytes second.frames) new.input)
          ∙ ap (λ b. b ++ new.input) (sym (flat_map-append frame_bytes first.frames second.frames));
      keys = ap (λ b. old.keys ++ b) (flat_map-append keys_in first.frames second.frames)
          ∙ sym (append_assoc old.keys keys (flat_map keys_in second.frames))
          ∙ ap (λ b. b ++ flat_map keys_in second.frames) first.keys ∙ second.keys;
    }

-- bytes came, of which this was heard
abbrev pub Hearing : Option (List ℕ) → Option (List ℕ) → Incoming → Incoming → Type 0
Hearing was now old new = (came : List ℕ) × Consumes was now came × Hears old new came []

pub hearing_then : (was mid now : Option (List ℕ)) (old half new : Incoming)
    → Hearing was mid old half → Hearing mid now half new → Hearing was now old new
hearing_then was mid now old half new (came, first, hears) (more, second, then) = (
  came ++ more,
  Consumes-trans was mid now came more first second,
  hears_then old half new came more [] hears then,
)

-- the end of the bytes, or an error of a read
pub hearing_kept : (was now : Option (List ℕ)) (old new : Incoming) → Keeps was now
    → new.input ≡ old.input → new.keys ≡ old.keys → Hearing was now old new
hearing_kept was now old new keeps input keys =
    ([], consumes_none was now keeps, hears_still old old new [] (hears_nothing old) input keys)

pub hearing_frame : (was : Option (List ℕ)) (old new : Incoming) → old.keys ≡ []
    → (count : ℕ) × TakesFrame old.input count new.keys × (new.input ≡ drop count old.input)
    → Hearing was was old new
hearing_frame was old new none takes =
    ([], Consumes-nil was, hears_frame old old new [] (hears_nothing old) none takes)

pub hearing_more : (was now : Option (List ℕ)) (old new : Incoming)
    → (came : List ℕ) × Consumes was now came × (new.input ≡ old.input ++ came)
    → new.keys ≡ old.keys → Hearing was now old new
hearing_more was now old new (came, consumes, input) keys =
    (came, consumes, hears_more old old new [] came (hears_nothing old) input keys)

-- the first of the keys were given after that
pub given_after : (was now : Option (List ℕ)) (old half : Incoming) (keys given : List ℕ)
    → Hearing was now old half → half.keys ≡ given ++ keys
    → (came : List ℕ) × Consumes was now came × Hears old (record half { keys = keys }) came given
given_after was now old half keys given (came, consumes, hears) is =
    (came, consumes, hears_given old half (record half { keys = keys }) came given hears refl is)

-- a slice that is empty has no keys
pub no_keys : (is_empty : Bool) (slice keys : List ℕ) → slice ≡ keys → is_empty ≡ (length slice == 0)
    → is_empty ≡ true → keys ≡ []
no_keys is_empty [] keys same test is = sym same
no_keys is_empty (key ∷ slice) keys same test is =
    let none : length (key ∷ slice) ≡ 0 = grind (arith, nat_tests, sym test ∙ is) in
    absurd (omega (arith, none))
