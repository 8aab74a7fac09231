use Rattle.art_rules.proofs.Common.{false, IfSome, length, List, None, Option, option_copied, option_map, Some, ℕ, ◌+◌, ◌≡◌, ◌≤◌}
use Rattle.lump_cache.specs.{Zones.block_size, Zones.same_owner, Caches.lump_owner}
use Rattle.lump_cache.proofs.StaticLemmas.{rest_static}
use Rattle.texture_build.specs.Rules.{ColumnLookup, Single}
use Rattle.texture_build.specs.Sources.{ColumnView, IsLentBeside, column_from}
use Rattle.texture_build.proofs.column.lend_lookup.Goals as goal

-- the zone holds the bytes that a column is of
beside : (x : Option (List ℕ)) {result : Option ColumnView} (zone colormap count first : ℕ) {asked lookup : ColumnLookup} → asked ≡ lookup →
    IfSome x (λ bytes. IsLentBeside zone colormap count lookup (length bytes)) → result ≡ option_map (column_from first) x →
    IfSome result (λ column. IsLentBeside zone colormap count asked (length column.bytes))
beside x {result} zone colormap count first {asked} {lookup} same fits is = rw (is, same) (go x fits) where
  go : (y : Option (List ℕ)) → IfSome y (λ bytes. IsLentBeside zone colormap count lookup (length bytes)) →
      IfSome (option_map (column_from first) y) (λ column. IsLentBeside zone colormap count lookup (length column.bytes))
  go None k = tt
  go (Some bytes) k = k

single : (x : Option (List ℕ)) (zone colormap count lump place : ℕ) →
    (same_owner (lump_owner colormap) (lump_owner lump) ≡ false →
    IfSome x (λ bytes. block_size count + block_size (length bytes) ≤ zone)) →
    IfSome x (λ bytes. IsLentBeside zone colormap count (Single lump place) (length bytes))
single None zone colormap count lump place k = tt
single (Some bytes) zone colormap count lump place k = k

pub returns-in-Single-clause-fits : goal.returns-in-Single-clause-fits
returns-in-Single-clause-fits c = λ colormap count rest.
    beside (option_copied c.bytes.result) c.args.cache.now.size colormap count _ c.in-Single.is
    (single (option_copied c.bytes.result) c.args.cache.now.size colormap count c.in-Single.lump
    c.in-Single.place (c.bytes.ensures.fits colormap count (rest_static rest)))
    c.column_from-in-Single.ensures.column

pub returns-in-Composed-clause-fits : goal.returns-in-Composed-clause-fits
returns-in-Composed-clause-fits c = λ colormap count rest.
    beside (option_copied c.composite.result) c.args.cache.now.size colormap count _ c.in-Composed.is
    (c.composite.ensures.fits colormap count rest) c.column_from-in-Composed.ensures.column
