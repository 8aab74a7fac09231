-- By the trimmed file of an accepted plan, flats are compared as they were: the sky keeps its number, and the flats of the
-- sectors are those of part 1, which stand for their sources one to one.
use Rattle.art_rules.proofs.Common.{[], AllByRecursion, ap, arith, get_or, length, List, Ok, ok_or, Option, suc, sym, ℕ, ◌+◌, ◌<◌, ◌==◌, ◌∙◌, ◌∷◌, ◌≡◌, ◌≤◌}
use Rattle.trim_rules.specs.Rules.{HEAD_SIZE, Lump, MAX_LUMPS, SKY_FLAT, SceneArt, Sector, SectorFlats, each_from, each_or, sector_flats}
use Rattle.art_rules.proofs.Laws.{and_then-ok}
use Rattle.trim_rules.specs.declared.part.TrimPart.{TrimPart}
use Rattle.trim_rules.specs.Parts.{flat_lumps, trim_parts, trim_plan}
use Rattle.trim_rules.specs.Files.{stored_lumps, trimmed_lumps}
use Rattle.trim_rules.proofs.AnswerLemmas.{ok_of}
use Rattle.trim_rules.proofs.FlatPlaceLemmas.{AreFlatPlaces, IsFlatPlace, one-to-one, places-flats, source-past}
use Rattle.trim_rules.proofs.HeldFlatLemmas.{flat_part, flats-held}
use Rattle.trim_rules.proofs.{MapLemmas.stored-length, OrderLemmas.all-at}
use Rattle.trim_rules.proofs.PlaceLemmas.{part_source, source_of}
use Rattle.trim_rules.proofs.PlanLemmas.{plan-accepted, plan-unmarked}
use Rattle.trim_rules.proofs.ThereLemmas.{flats-there}

-- as many as the items
each-length : {X Y R : Type 0} (f : X → Option Y) (refuse : ℕ → R) (number : ℕ) (xs : List X) (ys : List Y) → each_from f refuse number xs ≡ Ok ys → length ys ≡ length xs
unfolding each_from
each-length f refuse number [] ys e = ap length (sym (ok_of [] ys e))
each-length f refuse number (x ∷ xs) ys e =
    let first_made = and_then-ok (ok_or (f x) (refuse number)) _ ys e in
    let rest_made = and_then-ok (each_from f refuse (suc number) xs) _ ys first_made.2 in
    ap length (sym (ok_of (first_made.0 ∷ rest_made.0) ys rest_made.2)) ∙ ap suc (each-length f refuse (suc number) xs rest_made.0 rest_made.1)

-- there are as many flats as sectors
pub flats-count : (lumps : List Lump) (sectors : List Sector) (flats : List SectorFlats) → sector_flats lumps sectors ≡ Ok flats → length flats ≡ length sectors
unfolding sector_flats each_or
flats-count lumps sectors flats e = each-length _ _ 0 sectors flats e

trimmed-length : (bytes : ℕ → List ℕ) (lumps : List Lump) (parts : List TrimPart) → length (trimmed_lumps bytes lumps parts) ≡ length parts
unfolding trimmed_lumps stored_lumps
trimmed-length bytes lumps parts = stored-length bytes lumps HEAD_SIZE parts

module _ (lumps : List Lump) (art : SceneArt) (name : List ℕ) (parts : List TrimPart) (plan : trim_plan lumps art name ≡ Ok parts) where
  -- the sky keeps its number
  pub sky-kept : source_of (trim_parts lumps art name) SKY_FLAT ≡ SKY_FLAT
  sky-kept =
      let count : length (trim_parts lumps art name) ≤ MAX_LUMPS = (plan-accepted lumps art name parts plan).1.count in
      source-past (trim_parts lumps art name) SKY_FLAT (omega arith)

  module _ (bytes : ℕ → List ℕ) (sectors : List Sector) (few : length lumps ≤ SKY_FLAT) (flats : sector_flats lumps sectors ≡ Ok art.flats) where
    -- the flats of the sectors are those of part 1
    pub flats-placed : (moved : List SectorFlats) → sector_flats (trimmed_lumps bytes lumps (trim_parts lumps art name)) sectors ≡ Ok moved
        → AllByRecursion (AreFlatPlaces (length (flat_lumps lumps art.flats))) moved
    flats-placed moved e =
        let flats_held = flats-held bytes lumps art name sectors few flats (plan-unmarked lumps art name parts plan) in
        places-flats (trimmed_lumps bytes lumps (trim_parts lumps art name)) (length (flat_lumps lumps art.flats)) flats_held.group sectors moved e

    -- one to one
    pub flats-one-to-one : (a b : ℕ) → IsFlatPlace (length (flat_lumps lumps art.flats)) a → IsFlatPlace (length (flat_lumps lumps art.flats)) b
        → (source_of (trim_parts lumps art name) a == source_of (trim_parts lumps art name) b) ≡ (a == b)
    flats-one-to-one =
        let all_parts = trim_parts lumps art name in
        let numbers = flat_lumps lumps art.flats in
        let flats_held = flats-held bytes lumps art name sectors few flats (plan-unmarked lumps art name parts plan) in
        let inside : 0 + suc (length numbers) < length (trimmed_lumps bytes lumps all_parts) = flats_held.group.inside in
        let count : length (trimmed_lumps bytes lumps all_parts) ≡ length all_parts = trimmed-length bytes lumps all_parts in
        let parts_at_most_max : length all_parts ≤ MAX_LUMPS = (plan-accepted lumps art name parts plan).1.count in
        one-to-one (source_of all_parts) numbers sky-kept (omega arith) (λ k lt. ap part_source (flat_part lumps art name k lt))
        (λ k lt. let flat_is_lump : get_or numbers k 0 < length lumps = all-at (λ n. n < length lumps) numbers k 0 (flats-there lumps art) lt in omega arith)
        flats_held.ascending
