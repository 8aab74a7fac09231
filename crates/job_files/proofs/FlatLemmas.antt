-- The picture of a flat from its parts.
use Rattle.std.proofs.Common.{◌≡◌, ℕ, Bool, List, Ok, refl}
use Rattle.job_files.specs.Rules.{Lump, ResultIs, itself, listed}
use Rattle.frame_writer.specs.declared.TheConstants.{FRAME_BYTES}
use Rattle.job_files.specs.Flats.{PictureValue, tiled_index, palette_in, flat_in, picture_in}

-- the steps give the picture of the palette and the flat that they gave
pub picture_is : (steady : Bool) (contents : List (List ℕ)) (name : List ℕ) (lumps : List Lump) (palette flat given frame : List ℕ) (picture : PictureValue) →
    palette_in contents lumps ≡ Ok palette → flat_in contents lumps name ≡ Ok flat → given ≡ flat → frame ≡ listed (tiled_index given) FRAME_BYTES →
    picture ≡ record { frame = frame; palette = palette } → ResultIs {A = PictureValue} {B = PictureValue} itself steady (λ picture. picture) (picture_in contents name lumps) (Ok picture)
picture_is steady contents name lumps palette flat given frame picture p f same drawn is = record { ok = rw (p, f, is, drawn, same) refl; err = tt }
