-- What is known of the WADs where all files are accepted.
use Rattle.std.proofs.Common.{◌≡◌, ℕ, List, Option, Some, None, Result, Ok, Err, refl, ap, ◌∙◌}
use Rattle.job_files.specs.Rules.{DirRefusal, File, FileNames, Lump, Settings, and_then, directory, else_absent, from_below, no_file}
use Rattle.refusals.specs.declared.refusal.Refusal.{Refusal}
use Rattle.refusals.specs.declared.refusal.Refusal.TheVariants.{Wad}
use Rattle.job_files.specs.Files.{FilesValue, tables_file, in_file, texts_in, files_named, lumps_in, files_in}

-- the WADs of these names have these bytes, which list these lumps
pub record AreListed (wads : List (List ℕ)) (files : List File) (lumps : List Lump) : Type 0 where
  pub contents : List (List ℕ)
  pub named : files_named wads files ≡ Some contents
  pub listed : directory contents ≡ Ok lumps

-- both steps were passed
both_passed : {A C E : Type 0} (first : Result C E) (next : C → Result A E) (value : A) → and_then first next ≡ Ok value → (found : C) × (first ≡ Ok found) × (next found ≡ Ok value)
both_passed (Ok found) next value e = (found, refl, e)
both_passed (Err stop) next value e = absurd (cc)

no_refusal : (listing : Result (List Lump) DirRefusal) (lumps : List Lump) → no_file {R = Refusal} (from_below Wad listing) ≡ Ok lumps → listing ≡ Ok lumps
no_refusal (Ok found) lumps e = let lists_same : found ≡ lumps = cc in ap Ok lists_same
no_refusal (Err refusal) lumps e = absurd (cc)

is_held : (file : Option (List (List ℕ))) (contents : List (List ℕ)) → else_absent {R = Refusal} file ≡ Ok contents → file ≡ Some contents
is_held None contents e = absurd (cc)
is_held (Some found) contents e = let contents_same : found ≡ contents = cc in ap Some contents_same

-- all files were accepted: the WADs are held, and their bytes list the lumps
pub wads_accepted : (names : FileNames) (wads : List (List ℕ)) (settings : Settings) (files : List File) (value : FilesValue) →
    files_in names wads settings files ≡ Ok value → AreListed wads files value.lumps
unfolding files_in lumps_in
wads_accepted names wads settings files value e =
    let tables = both_passed (in_file (tables_file settings) names.tables files) _ value e in
    let texts = both_passed (texts_in names files) _ value tables.2 in
    let lumps = both_passed (lumps_in wads files) _ value texts.2 in
    let wad = both_passed (else_absent (files_named wads files)) _ lumps.0 lumps.1 in
    let lumps_same : lumps.0 ≡ value.lumps = cc (lumps.2) in
    record {
      contents = wad.0;
      named = is_held (files_named wads files) wad.0 wad.1;
      listed = no_refusal (directory wad.0) lumps.0 wad.2 ∙ ap Ok lumps_same;
    }
