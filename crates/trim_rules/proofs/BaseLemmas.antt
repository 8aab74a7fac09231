-- What a level stands on, in a directory that gives the same bytes for the same names.
use Rattle.std.proofs.Common.{◌≡◌, ℕ, List, Result, Ok, Err, take, refl, ap, sym, ◌∙◌}
use Rattle.trim_rules.specs.Rules.{Art, ArtRefusal, LevelBase, LevelValue, Lump, Map, MapRefusal, PALETTE_SIZE, PNAMES, TEXTURE1, TEXTURE2, TexRefusal, TextureLists, and_then, base_in, base_over, colormap_of, from_below, label_of, level_in, level_of, lists_in, map_bytes, named_bytes, playpal_of}
use Rattle.scene_rules.specs.declared.refusal.AuditRefusal.TheVariants.{Texture}
use Rattle.trim_rules.proofs.AnswerLemmas.{ok_of}

-- Two directories with the bytes of their lumps, which give the same for what a level stands on; `c`, `p` and `l` are
-- COLORMAP, PLAYPAL and the label in the second.
pub record ServesBase (bytes bytes' : ℕ → List ℕ) (lumps lumps' : List Lump) (name : List ℕ) (base : LevelBase) (c p l : ℕ) : Type 0 where
  pub is : base_in bytes lumps name ≡ Ok base
  pub colormap : colormap_of lumps' ≡ Ok c
  pub playpal : playpal_of lumps' ≡ Ok p
  pub palette : bytes' p ≡ bytes base.playpal
  pub label : label_of lumps' name ≡ Ok l
  pub level : map_bytes bytes' l ≡ map_bytes bytes base.label
  pub pnames : named_bytes bytes' lumps' PNAMES ≡ named_bytes bytes lumps PNAMES
  pub texture1 : named_bytes bytes' lumps' TEXTURE1 ≡ named_bytes bytes lumps TEXTURE1
  pub texture2 : named_bytes bytes' lumps' TEXTURE2 ≡ named_bytes bytes lumps TEXTURE2

lists-served : (bytes bytes' : ℕ → List ℕ) (lumps lumps' : List Lump)
    → named_bytes bytes' lumps' PNAMES ≡ named_bytes bytes lumps PNAMES
    → named_bytes bytes' lumps' TEXTURE1 ≡ named_bytes bytes lumps TEXTURE1
    → named_bytes bytes' lumps' TEXTURE2 ≡ named_bytes bytes lumps TEXTURE2
    → lists_in bytes' lumps' ≡ lists_in bytes lumps
unfolding lists_in
lists-served bytes bytes' lumps lumps' a b c = rw (a, b, c) refl

-- what a base says of the steps by which it was made
pub record IsMadeOf (bytes : ℕ → List ℕ) (lumps : List Lump) (base : LevelBase) : Type 0 where
  pub palette : take PALETTE_SIZE (bytes base.playpal) ≡ base.palette
  pub level : level_of (map_bytes bytes base.label) ≡ Ok base.level
  pub lists : lists_in bytes lumps ≡ Ok base.lists

module _ (bytes : ℕ → List ℕ) (lumps : List Lump) (name : List ℕ) (base : LevelBase) where
  made_step : (c p l : ℕ) (palette : List ℕ) (level : Result LevelValue MapRefusal) (lists : Result TextureLists TexRefusal)
      → level_of (map_bytes bytes l) ≡ level → lists_in bytes lumps ≡ lists → take PALETTE_SIZE (bytes p) ≡ palette
      → and_then {A = ℕ × LevelValue} (from_below Map (and_then level (λ v. Ok (l, v)))) (λ map. and_then (from_below Texture lists) (λ ls.
      Ok (record { colormap = c; playpal = p; palette = palette; label = map.0; level = map.1; lists = ls }))) ≡ Ok base
      → IsMadeOf bytes lumps base
  made_step c p l palette (Err r) lists a b d e = absurd (cc)
  made_step c p l palette (Ok v) (Err r) a b d e = absurd (cc)
  made_step c p l palette (Ok v) (Ok ls) a b d e =
      let new_base : LevelBase = record { colormap = c; playpal = p; palette = palette; label = l; level = v; lists = ls } in
      let base_is : record { colormap = c; playpal = p; palette = palette; label = l; level = v; lists = ls } ≡ base = ok_of _ base e in
      record {
        palette = ap (λ (b' : LevelBase). take PALETTE_SIZE (bytes b'.playpal)) (sym base_is) ∙ d ∙ ap (λ (b' : LevelBase). b'.palette) base_is;
        level = ap (λ (b' : LevelBase). level_of (map_bytes bytes b'.label)) (sym base_is) ∙ a ∙ ap (λ (b' : LevelBase). Ok b'.level) base_is;
        lists = b ∙ ap (λ (b' : LevelBase). Ok b'.lists) base_is;
      }

  label_step : (c p : ℕ) (label : Result ℕ MapRefusal) → label_of lumps name ≡ label → base_over bytes lumps name c p (take PALETTE_SIZE (bytes p)) ≡ Ok base → IsMadeOf bytes lumps base
  unfolding base_over level_in
  label_step c p (Err r) is e = let impossible : Err (Map r) ≡ Ok base = ap (λ (o : Result ℕ MapRefusal). and_then {A = ℕ × LevelValue} (from_below Map (and_then o (λ l. and_then (level_of (map_bytes bytes l)) (λ v. Ok (l, v))))) (λ map. and_then (from_below Texture (lists_in bytes lumps)) (λ ls. Ok (record { colormap = c; playpal = p; palette = take PALETTE_SIZE (bytes p); label = map.0; level = map.1; lists = ls })))) (sym is) ∙ e in absurd (cc)
  label_step c p (Ok l) is e =
      made_step c p l (take PALETTE_SIZE (bytes p)) (level_of (map_bytes bytes l)) (lists_in bytes lumps) refl refl refl
      (ap (λ (o : Result ℕ MapRefusal). and_then {A = ℕ × LevelValue} (from_below Map (and_then o (λ l. and_then (level_of (map_bytes bytes l)) (λ v. Ok (l, v))))) (λ map. and_then (from_below Texture (lists_in bytes lumps)) (λ ls. Ok (record { colormap = c; playpal = p; palette = take PALETTE_SIZE (bytes p); label = map.0; level = map.1; lists = ls })))) (sym is) ∙ e)

  colours_step : (colormap playpal : Result ℕ ArtRefusal)
      → and_then (from_below Art colormap) (λ c. and_then (from_below Art playpal) (λ p. base_over bytes lumps name c p (take PALETTE_SIZE (bytes p)))) ≡ Ok base
      → IsMadeOf bytes lumps base
  colours_step (Err r) playpal e = absurd (cc)
  colours_step (Ok c) (Err r) e = absurd (cc)
  colours_step (Ok c) (Ok p) e = label_step c p (label_of lumps name) refl e

  pub base-made : base_in bytes lumps name ≡ Ok base → IsMadeOf bytes lumps base
  unfolding base_in
  base-made e = colours_step (colormap_of lumps) (playpal_of lumps) e

-- The base of the second directory is that of the first, with other numbers for its lumps.
pub base-served : (bytes bytes' : ℕ → List ℕ) (lumps lumps' : List Lump) (name : List ℕ) (base : LevelBase) (c p l : ℕ)
    → ServesBase bytes bytes' lumps lumps' name base c p l
    → base_in bytes' lumps' name ≡ Ok (record { colormap = c; playpal = p; palette = base.palette; label = l; level = base.level; lists = base.lists })
unfolding base_in base_over level_in
base-served bytes bytes' lumps lumps' name base c p l serves =
    let base_is = base-made bytes lumps name base serves.is in
    let level : level_of (map_bytes bytes' l) ≡ Ok base.level = ap level_of serves.level ∙ base_is.level in
    let lists : lists_in bytes' lumps' ≡ Ok base.lists = lists-served bytes bytes' lumps lumps' serves.pnames serves.texture1 serves.texture2 ∙ base_is.lists in
    let palette : take PALETTE_SIZE (bytes' p) ≡ base.palette = ap (take PALETTE_SIZE) serves.palette ∙ base_is.palette in
    rw (serves.colormap, serves.playpal, serves.label, level, lists, palette) refl
