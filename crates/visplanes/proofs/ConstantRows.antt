-- The value of each constant that a clause or a definition cites, by evaluation.
use Rattle.std.specs.Prelude.{refl, ◌≡◌}
use Rattle.visplanes.specs.declared.columns.TheConstants.{NO_RUN}

-- src/columns.rt
no_run_row : NO_RUN ≡ 255
no_run_row = refl
