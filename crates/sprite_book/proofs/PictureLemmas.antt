-- How the pictures of a frame are found.
use Rattle.art_rules.proofs.Common.{ap, Err, err_from_is_err_and, IsErrAnd, List, MatchResult, None, Ok, ok_or, Option, range_with_len, refl, Result, Some, sym, ◌∙◌, ◌≡◌}
use Rattle.sprite_book.specs.Rules.{Fault, Mention, Need, NoFrame, ROTATIONS, Refused, SpriteRefusal, each_of, is_of_frame, last_mention, last_that, picture_or_missing, pictures_of}

found_in : {X E : Type 0} (o : Option X) (e : E) (v : X) → ok_or o e ≡ Ok v → o ≡ Some v
found_in None e v h = cc
found_in (Some x) e v h = let value_same : x ≡ v = cc in ap Some value_same

-- the last mention was found
pub last_found : (all : List Mention) (need : Need) (last : Mention) (r : Result Mention SpriteRefusal) → r ≡ last_mention all need → r ≡ Ok last → last_that (is_of_frame need.frame) all ≡ Some last
unfolding last_mention
last_found all need last r is was = found_in (last_that (is_of_frame need.frame) all) (NoFrame need.thing) last (sym is ∙ was)

-- the same error goes on
pub same_error : {A : Type 0} (result : Result A SpriteRefusal) (e : SpriteRefusal) → IsErrAnd result (λ f. f ≡ e) → result ≡ Err e
same_error result e h = let result_is_error = err_from_is_err_and result h in result_is_error.1 ∙ ap Err result_is_error.2

pub told_error : {A : Type 0} (P : A → Type 0) (result : Result A SpriteRefusal) (e : SpriteRefusal) (expected : Result (List Mention) SpriteRefusal) → IsErrAnd result (λ f. f ≡ e) → expected ≡ Err e →
    MatchResult result P (λ refusal. expected ≡ Err refusal)
told_error {A} P (Ok v) e expected h is = absurd h
told_error {A} P (Err f) e expected h is = is ∙ ap Err (sym h)

-- what `map_err(SpriteFault::Refused)` tells of its result
module _ {A : Type 0} where
  abbrev IsRefusal : Result A SpriteRefusal → Result A (Fault SpriteRefusal) → Type 0
  IsRefusal judged result = MatchResult judged (λ x. result ≡ Ok x) (λ e. IsErrAnd result (λ f. f ≡ Refused e))

  pub passed : (judged : Result A SpriteRefusal) (result : Result A (Fault SpriteRefusal)) (value : A) → IsRefusal judged result → result ≡ Ok value → judged ≡ Ok value
  passed (Ok x) result value is was = let value_same : x ≡ value = cc in ap Ok value_same
  passed (Err e) result value is was = let result_is_error = err_from_is_err_and result is in cc

  pub refused : (judged : Result A SpriteRefusal) (result : Result A (Fault SpriteRefusal)) (fault : Fault SpriteRefusal) → IsRefusal judged result → result ≡ Err fault → (e : SpriteRefusal) × (judged ≡ Err e) × (fault ≡ Refused e)
  refused (Ok x) result fault is was = cc
  refused (Err e) result fault is was =
      let result_is_error = err_from_is_err_and result is in
      let fault_same : result_is_error.0 ≡ fault = cc in
      (e, refl, sym fault_same ∙ result_is_error.2)

-- no lump mentions the frame
pub pictures_none : (all : List Mention) (need : Need) (r : Result Mention SpriteRefusal) (e : SpriteRefusal) → r ≡ last_mention all need → r ≡ Err e → Err e ≡ pictures_of all need
unfolding pictures_of
pictures_none all need r e is was = let mention_refused : last_mention all need ≡ Err e = sym is ∙ was in rw mention_refused refl

-- some lump does, and so the pictures of the rotations decide
pub pictures_by : (all : List Mention) (need : Need) (r : Result Mention SpriteRefusal) (last : Mention) → r ≡ last_mention all need → r ≡ Ok last → each_of (picture_or_missing all need) (range_with_len 0 ROTATIONS) ≡ pictures_of all need
unfolding pictures_of
pictures_by all need r last is was = let mention_is_last : last_mention all need ≡ Ok last = sym is ∙ was in rw mention_is_last refl
