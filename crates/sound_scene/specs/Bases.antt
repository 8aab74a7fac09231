-- What contracts see of what a level stands on.
use Rattle.sound_scene.specs.declared.parts.ReadBase.{ReadBase}
use Rattle.scene_rules.specs.Words.{LevelBase}

abbrev pub base_of : ReadBase → LevelBase
base_of base = record {
  colormap = base.colormap.0;
  playpal = base.playpal.0;
  palette = base.palette.items;
  label = base.label.0;
  level = base.level;
  lists = base.textures.lists;
}
