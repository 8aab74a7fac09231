-- One list after the other is saved.
use Rattle.picture_rules.proofs.Common.{ap₂, refl, ℤ, List, ◌∙◌}
use Rattle.wall_columns.specs.Saved.{with_saved, lists_saved}
use Rattle.wall_columns.proofs.column_state.ColumnState.save_columns.Goals as goal

pub returns : goal.returns
unfolding lists_saved
returns c =
    let places = c.args.places in
    record {
      saved = record {
        saved = λ facts is.
            c.save_clips-2.ensures.value
            ∙ ap₂ (λ (xs list : List ℤ). with_saved xs places.bottom list)
            (c.save_clips.ensures.value
            ∙ ap₂ (λ (xs list : List ℤ). with_saved xs places.top list) (c.save_columns.ensures.value facts is) c.ceilings-ceilings.ensures.value)
            c.floors-floors.ensures.value;
        room = c.save_clips-2.ensures.room ∙ c.save_clips.ensures.room ∙ c.save_columns.ensures.room;
        windows = refl;
        floor = refl;
        ceiling = refl;
      };
    }
