-- The lumps of colours by name.
use Rattle.picture_rules.proofs.Common.{Err, MatchResult, None, Ok, ok_or, Option, option_map, refl, Result, Some, ℕ, ◌≡◌}
use Rattle.job_files.specs.Rules.{ArtRefusal, COLORMAP, LumpNo, PLAYPAL, filled, name_of}

-- the names are in capitals
pub colour_names : (name_of COLORMAP ≡ COLORMAP) × (name_of PLAYPAL ≡ PLAYPAL)
unfolding filled
colour_names = (refl, refl)

-- what is told of a lump that was looked for
pub long_told : (refusal : ArtRefusal) (found : Option LumpNo) (number : Option ℕ) (r : Result LumpNo ArtRefusal) → option_map (λ (lump : LumpNo). lump.0) found ≡ number → r ≡ ok_or found refusal →
    MatchResult r (λ lump. ok_or number refusal ≡ Ok lump.0) (λ given. ok_or number refusal ≡ Err given)
long_told refusal None number r e is = rw (is, ← e) refl
long_told refusal (Some lump) number r e is = rw (is, ← e) refl
