-- What contracts see of a workshop.
use Rattle.picture_rules.specs.declared.Limits.{Limits}
use Rattle.pixel_strips.specs.Canvases.{CanvasView}

pub record WorkshopView : Type 0 where
  pub limits : Limits
  pub frame : CanvasView
