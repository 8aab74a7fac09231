-- The descriptions that a brush is given, by their values.
use Rattle.brush.specs.declared.brush.FloorStrip.{FloorStrip}
use Rattle.brush.specs.declared.brush.PictureStrip.{PictureStrip}
use Rattle.brush.specs.Strips.{FloorValue, PictureStripValue}
use Rattle.visplanes.specs.Planes.{plane_at}

abbrev pub floor_value : FloorStrip → FloorValue
floor_value s = record {
  view = s.view.now;
  plane = plane_at s.planes.now.planes s.plane.0;
  number = s.plane.0;
  lump = s.lump.0;
}

abbrev pub picture_value : PictureStrip → PictureStripValue
picture_value s = record {
  kind = s.kind;
  number = s.number;
  lump = s.lump.0;
  flip = s.flip;
  width = s.width;
  left = s.left;
  shape = s.shape;
  first = s.first;
  last = s.last;
  masked = s.masked;
  map = s.map;
  tops = s.tops.now;
  bottoms = s.bottoms.now;
}
