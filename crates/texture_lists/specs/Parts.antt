-- What is kept of each list of textures while both are read, and how reading may end. No byte of a
-- list is kept.
use Rattle.std.specs.Prelude.{ℕ, ◌+◌, List, [], ◌++◌, Option, None, Some, Result, Ok, Err, option_map, ⊤}
use Rattle.texture_lists.specs.Rules.{Fault, OutOfMemory, ReadFault, Refused, TexRefusal, Texture, ZoneFull, and_then, first_list, list_count, or_else, second_list, textures_in, unless_wrong, wrong_record}

-- how many textures a list counts, its first wrong record, and its textures where none is wrong
pub record ListPart : Type 0 where
  pub count : ℕ
  pub wrong : Option ℕ
  pub textures : List Texture

-- the textures of a list, none where a record is wrong
unfoldable pub if_sound : Option ℕ → List Texture → List Texture
if_sound None textures = textures
if_sound (Some number) textures = []

unfoldable pub list_part : List ℕ → ListPart
list_part bytes =
    record {
      count = list_count bytes;
      wrong = wrong_record bytes;
      textures = if_sound (wrong_record bytes) (textures_in bytes);
    }

-- the part of a list that need not be there
unfoldable pub second_list_part : Option (List ℕ) → ListPart
second_list_part None = record { count = 0; wrong = None; textures = [] }
second_list_part (Some bytes) = list_part bytes

-- the parts, unless their lists are refused as wholes
unfoldable pub first_part : Option (List ℕ) → Result ListPart TexRefusal
first_part texture1 = and_then (first_list texture1) (λ bytes. Ok (list_part bytes))

unfoldable pub second_part : ℕ → Option (List ℕ) → Result ListPart TexRefusal
second_part before texture2 =
    and_then (second_list before texture2) (λ bytes. Ok (second_list_part bytes))

-- the textures of two parts, refused for the first wrong record
unfoldable pub joined_parts : ListPart → ListPart → Result (List Texture) TexRefusal
joined_parts first second =
    unless_wrong (or_else first.wrong (option_map (λ i. first.count + i) second.wrong))
    (first.textures ++ second.textures)

-- what a call answers that asks for no lump: only bytes or memory can stop it
abbrev pub IsOfBytes : {A R : Type 0} → Result A (Fault R) → Type 0
IsOfBytes (Ok value) = ⊤
IsOfBytes (Err (Refused refusal)) = ⊤
IsOfBytes (Err ReadFault) = ⊥
IsOfBytes (Err (ZoneFull wanted widest)) = ⊥
IsOfBytes (Err OutOfMemory) = ⊤
