-- The fields of a map record. A number is a half word, and a name has eight bytes.
use Rattle.std.specs.Prelude.{◌≡◌, ℕ, ◌*◌, ◌/◌, ◌^◌, ℤ, negsuc, List, [], ◌∷◌, length, take, drop, refl}
use Rattle.std.specs.Int.{int_wrap}
use Rattle.word_rules.specs.{Bytes.half_at, Bytes.signed_half_at, Words.fixed, Words.shl_word, Listed.listed}
use Rattle.lump_rules.specs.Names.{name_of}
use Rattle.word_rules.specs.declared.TheConstants.{FRACTION_BITS}
use Rattle.level_rules.specs.declared.maps.layout.TheConstants.{NAME_SIZE}

-- the bytes of record n, where a record has `size` bytes
unfoldable pub record_at : ℕ → List ℕ → ℕ → List ℕ
record_at size bytes n = take size (drop (size * n) bytes)

-- the whole records of a lump, each read by `read`; bytes after the last of them count for nothing
unfoldable pub records_in : {R : Type 0} → (List ℕ → R) → ℕ → List ℕ → List R
records_in read size bytes = listed (λ n. read (record_at size bytes n)) (length bytes / size)

-- whole map units at `offset`, in 16.16 fixed point
unfoldable pub fixed_at : List ℕ → ℕ → ℤ
fixed_at entry offset = fixed (signed_half_at entry offset)

-- the upper half of an angle at `offset`, as BAM
unfoldable pub angle_field : List ℕ → ℕ → ℕ
angle_field entry offset = half_at entry offset * 2 ^ FRACTION_BITS

-- the name at `offset`
unfoldable pub name_field : List ℕ → ℕ → List ℕ
name_field entry offset = name_of (take NAME_SIZE (drop offset entry))

-- the bytes 255 and 255 are -1, a whole map unit below 0
pub fixed_at_row : fixed_at (255 ∷ 255 ∷ []) 0 ≡ negsuc 65535
unfolding fixed_at fixed shl_word signed_half_at half_at int_wrap
fixed_at_row = refl
