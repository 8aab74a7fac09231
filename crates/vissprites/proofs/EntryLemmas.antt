-- Laws of what is seen of a thing, and of its entry.
use Rattle.picture_rules.proofs.Common.{ap, arith, Bool, cond, false, int_lt, ints, nat_le, nat_tests, negsuc, None, pos, refl, Some, subst, sym, true, ℕ, ℤ, ◌*◌, ◌/◌, ◌^◌, ◌≡◌, ◌≤ℤ◌, ◌≤◌}
use Rattle.vissprites.specs.Rules.{FRACTION_UNIT, IsWithinFrame, MIN_DEPTH, Placed, Seen, Shape5, SpriteEntry, ViewValue, depth, div, entry_for, entry_of, entry_within, greater_word, lesser_word, minus, picture_height, project, seen_at, seen_within, side, sprite_map, sprite_scale}
use Rattle.picture_rules.proofs.Laws.{projection_is}

-- the scale of what is not too near is not negative
div_positive : (n : ℕ) (d : ℤ) → n ≤ 160 → int_lt d MIN_DEPTH ≡ false → pos 0 ≤ℤ div (pos (n * 65536)) d
unfolding div
div_positive n (pos m) l h =
    let far : 262144 ≤ m = grind (arith, ints) in
    let scale_fits : nat_le m (n * 65536 / 2 ^ 14) ≡ false = grind (arith, nat_tests) in
    rw scale_fits (omega (arith, ints))
div_positive n (negsuc m) l h = cc

sprite_scale-positive : (v : ViewValue) (d : ℤ) → v.shape.centre_x ≤ 160 → int_lt d MIN_DEPTH ≡ false → pos 0 ≤ℤ sprite_scale v d
unfolding sprite_scale
sprite_scale-positive v d l h =
    let scale_not_negative : ℤ → Type 0 = λ p. pos 0 ≤ℤ div p d in
    subst scale_not_negative (sym (projection_is v.shape l)) (div_positive v.shape.centre_x d l h)

seen_cases : (near far : Bool) (seen found : Seen) → cond near None (cond far None (Some found)) ≡ Some seen → (near ≡ false) × (found ≡ seen)
seen_cases true far seen found h = cc
seen_cases false true seen found h = cc
seen_cases false false seen found h = (refl, cc)

within_scale : (v : ViewValue) (thing : Placed) (d across : ℤ) (seen : Seen) → seen_within v thing d across ≡ Some seen → (int_lt d MIN_DEPTH ≡ false) × (sprite_scale v d ≡ seen.scale)
unfolding seen_within seen_at
within_scale v thing d across seen h =
    let depth_and_seen = seen_cases _ _ seen (seen_at v thing d across) h in
    (depth_and_seen.0, ap (λ (f : Seen). f.scale) depth_and_seen.1)

-- what is seen has a scale that is not negative
pub project-scale : (v : ViewValue) (thing : Placed) (seen : Seen) → IsWithinFrame v.shape → project v thing ≡ Some seen → pos 0 ≤ℤ seen.scale
unfolding project
project-scale v thing seen f h =
    let centre_below_160 : v.shape.centre_x ≤ 160 = omega (arith, f.centre_x, f.width) in
    let depth_and_scale = within_scale v thing (depth v thing.x thing.y) (side v thing.x thing.y) seen h in
    let not_negative : ℤ → Type 0 = λ z. pos 0 ≤ℤ z in
    subst not_negative depth_and_scale.1 (sprite_scale-positive v (depth v thing.x thing.y) centre_below_160 depth_and_scale.0)

-- an entry is made of its parts
pub entry_of-parts : (v : ViewValue) (number : ℕ) (thing : Placed) (seen : Seen) (shape : Shape5) (a1 a2 first last a x y gz gzt mid scale iscale : ℤ) (colormap : ℕ) →
    first ≡ greater_word a1 (pos 0) → last ≡ lesser_word a2 (minus (pos v.shape.width) (pos 1)) → a ≡ a1 → x ≡ thing.x → y ≡ thing.y → gz ≡ thing.z →
    gzt ≡ picture_height thing shape → mid ≡ minus (picture_height thing shape) v.eye.z → scale ≡ seen.scale → iscale ≡ div FRACTION_UNIT seen.scale → colormap ≡ sprite_map v thing seen.scale →
    (let made : SpriteEntry = record { number = number; first = first; last = last; a1 = a; x = x; y = y; gz = gz; gzt = gzt; mid = mid; scale = scale; iscale = iscale; flip = shape.flip; width = shape.width; lump = shape.lump; map = colormap } in
    made ≡ entry_of v number thing seen shape a1 a2)
unfolding entry_of
entry_of-parts v number thing seen shape a1 a2 first last a x y gz gzt mid scale iscale colormap p1 p2 p3 p4 p5 p6 p7 p8 p9 p10 p11 =
    rw (p1, p2, p3, p4, p5, p6, p7, p8, p9, p10, p11) refl

numbered : (v : ViewValue) (number : ℕ) (thing : Placed) (seen : Seen) (shape : Shape5) (a1 a2 : ℤ) (e : SpriteEntry) (b : Bool) →
    cond b None (Some (entry_of v number thing seen shape a1 a2)) ≡ Some e → e.number ≡ number
unfolding entry_of
numbered v number thing seen shape a1 a2 e true h = cc
numbered v number thing seen shape a1 a2 e false h = let entry_is : entry_of v number thing seen shape a1 a2 ≡ e = cc in ap (λ (f : SpriteEntry). f.number) (sym entry_is)

-- an entry has its number
pub entry_for-number : (v : ViewValue) (number : ℕ) (thing : Placed) (seen : Seen) (shape : Shape5) (e : SpriteEntry) → entry_for v number thing seen shape ≡ Some e → e.number ≡ number
unfolding entry_for entry_within
entry_for-number v number thing seen shape e h = numbered v number thing seen shape _ _ e _ h
