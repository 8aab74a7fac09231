-- All eight lumps and then the level of their records, and a map that is found by its name.
use Rattle.art_rules.proofs.Common.{[], ap, Err, IfOk, IsErrAnd, List, MatchResult, None, Ok, ok_or, Option, option_map, refl, Result, Some, sym, true, ℕ, ◌+◌, ◌∙◌, ◌∷◌, ◌≡◌}
use Rattle.level_scene.specs.Rules.{Fault, Heap, LevelValue, Linedefs, Lump, LumpNo, MapLump, MapRefusal, NoMap, Nodes, Sectors, Segs, ShelfView, Sidedefs, Ssectors, Things, Vertexes, and_then, is_map_lump, itself, label_of, level_from, level_in, level_of, map_bytes, map_of, map_refusal, or_else, records_of, size_refusal, sizes_refusal, unless}
use Rattle.art_rules.specs.Words.{OutOfMemory as LevelShort, Refused as LevelRefused}
use Rattle.lump_cache.specs.{DirectoryView.DirectoryView, Calls.ReadsLumps}
use Rattle.map_lumps.specs.declared.fault.MapFault.{MapFault}
use Rattle.map_lumps.specs.declared.fault.MapFault.TheVariants.{Refused, OutOfMemory}
use Rattle.map_lumps.specs.Builders.{BuilderValue, empty_builder, with_lump, with_records}
use Rattle.lump_cache.proofs.CallLemmas.{reads_same, reads_short, reads_then_refused, reads_as}
use Rattle.level_scene.specs.{Asked.IsLumpOfMap, Faults.map_fault}
use Rattle.level_scene.specs.Lumps.{lump_added, lumps_from}

-- one lump of those that are left, and the last one
module _ {V W : Type 0} (size rest : Option MapRefusal) (b : V) (next : V → Result V MapRefusal) (ends : V → Result W MapRefusal) (x : W) where
  add_one : (later : Option MapRefusal) → and_then (next b) ends ≡ unless (or_else later rest) x → and_then (and_then (unless size b) next) ends ≡ unless (or_else (or_else size later) rest) x
  unfolding unless
  add_one later e = go size where
    go : (s : Option MapRefusal) → and_then (and_then (unless s b) next) ends ≡ unless (or_else (or_else s later) rest) x
    go None = e
    go (Some r) = refl

  add_last : and_then (next b) ends ≡ unless rest x → and_then (and_then (unless size b) next) ends ≡ unless (or_else size rest) x
  unfolding unless
  add_last e = go size where
    go : (s : Option MapRefusal) → and_then (and_then (unless s b) next) ends ≡ unless (or_else s rest) x
    go None = e
    go (Some r) = refl

-- the lumps in the order of their numbers
abbrev pub map_order : List MapLump
map_order = Things ∷ Linedefs ∷ Sidedefs ∷ Vertexes ∷ Segs ∷ Ssectors ∷ Nodes ∷ Sectors ∷ []

-- the level of a builder's records
abbrev pub level_built : BuilderValue → Result LevelValue MapRefusal
level_built b = level_from b.map_records

pub level_of-lumps : (bytes : ℕ → List ℕ) (label : ℕ) → and_then (lumps_from bytes label 1 map_order empty_builder) level_built ≡ level_of (map_bytes bytes label)
unfolding lumps_from lump_added level_from level_of map_refusal sizes_refusal map_bytes records_of empty_builder with_lump with_records
level_of-lumps bytes label =
    add_one (size_refusal Things (bytes (label + 1))) _ _ _ _ _ _
    (add_one (size_refusal Linedefs (bytes (label + 2))) _ _ _ _ _ _
    (add_one (size_refusal Sidedefs (bytes (label + 3))) _ _ _ _ _ _
    (add_one (size_refusal Vertexes (bytes (label + 4))) _ _ _ _ _ _
    (add_one (size_refusal Segs (bytes (label + 5))) _ _ _ _ _ _
    (add_one (size_refusal Ssectors (bytes (label + 6))) _ _ _ _ _ _
    (add_one (size_refusal Nodes (bytes (label + 7))) _ _ _ _ _ _
    (add_last (size_refusal Sectors (bytes (label + 8))) _ _ _ _ _ refl)))))))

-- a lump is too large, or the builder with all of them is finished
pub level_of-stop : (bytes : ℕ → List ℕ) (label : ℕ) (refusal : MapRefusal) → lumps_from bytes label 1 map_order empty_builder ≡ Err refusal → level_of (map_bytes bytes label) ≡ Err refusal
level_of-stop bytes label refusal e = sym (level_of-lumps bytes label) ∙ ap (λ r. and_then r level_built) e

pub level_of-more : (bytes : ℕ → List ℕ) (label : ℕ) (b : BuilderValue) → lumps_from bytes label 1 map_order empty_builder ≡ Ok b → level_of (map_bytes bytes label) ≡ level_built b
level_of-more bytes label b e = sym (level_of-lumps bytes label) ∙ ap (λ r. and_then r level_built) e

module _ {v w : ShelfView} {dir : DirectoryView} {a z : Heap} {wants : ℕ → Type 0} (label : ℕ) (builder : BuilderValue)
    (read : ReadsLumps itself v w dir a z wants (λ (b : BuilderValue). b) (λ bytes. lumps_from bytes label 1 map_order empty_builder) (Ok builder)) where
  -- the builder gives a level
  pub finish_passed : (level : LevelValue) → level_built builder ≡ Ok level → ReadsLumps itself v w dir a z wants (λ (l : LevelValue). l) (λ bytes. level_of (map_bytes bytes label)) (Ok level)
  finish_passed level is = reads_as builder level read (λ lump wanted. wanted) (λ bytes got. level_of-more bytes label builder got ∙ is)

  -- it gives none
  module _ (r : Result LevelValue MapFault) (refused : (refusal : MapRefusal) → r ≡ Err (Refused refusal) → level_built builder ≡ Err refusal) where
    given_up : (fault : MapFault) → r ≡ Err fault → ReadsLumps itself v w dir a z wants (λ (l : LevelValue). l) (λ bytes. level_of (map_bytes bytes label)) (Err (map_fault fault))
    given_up (Refused refusal) was = reads_then_refused (LevelRefused refusal) refusal refl (λ lump wanted. wanted) read (λ contents told got. level_of-more _ label builder got ∙ refused refusal was)
    given_up OutOfMemory was = reads_short LevelShort refl (λ lump wanted. wanted) read

    pub finish_stopped : (fault : MapFault) (result : Result LevelValue (Fault MapRefusal)) → r ≡ Err fault → IsErrAnd result (λ e. e ≡ map_fault fault) → ReadsLumps itself v w dir a z wants (λ (l : LevelValue). l) (λ bytes. level_of (map_bytes bytes label)) result
    finish_stopped fault result was is = reads_same result (map_fault fault) (λ bytes. level_of (map_bytes bytes label)) is (given_up fault was)

  pub finish_done : (r : Result LevelValue MapFault) (result : Result LevelValue (Fault MapRefusal)) → MatchResult r (λ x. result ≡ Ok x) (λ e. IsErrAnd result (λ f. f ≡ map_fault e)) → IfOk r (λ level. level_built builder ≡ Ok level) →
      ((refusal : MapRefusal) → r ≡ Err (Refused refusal) → level_built builder ≡ Err refusal) → ReadsLumps itself v w dir a z wants (λ (l : LevelValue). l) (λ bytes. level_of (map_bytes bytes label)) result
  finish_done (Ok level) result is ok refused = rw is (finish_passed level ok)
  finish_done (Err fault) result is ok refused = finish_stopped (Err fault) refused fault result refl is

-- what is told of a look-up by name
pub label_told : (found : Option LumpNo) (lumps : List Lump) (name : List ℕ) (r : Result LumpNo MapRefusal) → option_map (λ (lump : LumpNo). lump.0) found ≡ map_of lumps name → r ≡ ok_or found NoMap →
    MatchResult r (λ label. label_of lumps name ≡ Ok label.0) (λ refusal. label_of lumps name ≡ Err refusal)
unfolding label_of
label_told None lumps name r e is = rw (is, ← e) refl
label_told (Some label) lumps name r e is = rw (is, ← e) refl

-- no map, or the level behind its label
pub level_in-none : (bytes : ℕ → List ℕ) (lumps : List Lump) (name : List ℕ) (refusal : MapRefusal) → label_of lumps name ≡ Err refusal → level_in bytes lumps name ≡ Err refusal
unfolding level_in
level_in-none bytes lumps name refusal e = rw e refl

module _ (bytes : ℕ → List ℕ) (lumps : List Lump) (name : List ℕ) (label : ℕ) (is : label_of lumps name ≡ Ok label) where
  pub level_in-stop : (refusal : MapRefusal) → level_of (map_bytes bytes label) ≡ Err refusal → level_in bytes lumps name ≡ Err refusal
  unfolding level_in
  level_in-stop refusal e = rw (is, e) refl

  pub level_in-more : (level : LevelValue) → level_of (map_bytes bytes label) ≡ Ok level → level_in bytes lumps name ≡ Ok (label, level)
  unfolding level_in
  level_in-more level e = rw (is, e) refl

-- a lump behind the label of the map is one of its lumps
pub of_map : (lumps : List Lump) (name : List ℕ) (label lump : ℕ) → label_of lumps name ≡ Ok label → is_map_lump label lump ≡ true → IsLumpOfMap lumps name lump
of_map lumps name label lump is among = record { label = label; is = is; among = among }
