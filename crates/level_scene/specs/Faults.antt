-- Faults of scenes and of maps as those of any layer.
use Rattle.level_scene.specs.Rules.{Fault, MapRefusal, SceneRefusal}
use Rattle.art_rules.specs.Fault.TheVariants as above
use Rattle.map_lumps.specs.declared.fault.MapFault.{MapFault}
use Rattle.map_lumps.specs.declared.fault.MapFault.TheVariants as map
use Rattle.level_scene.specs.declared.fault.SceneFault.{SceneFault}
use Rattle.level_scene.specs.declared.fault.SceneFault.TheVariants.{Refused, OutOfMemory}

abbrev pub scene_fault : SceneFault → Fault SceneRefusal
scene_fault (Refused refusal) = above.Refused refusal
scene_fault OutOfMemory = above.OutOfMemory

abbrev pub map_fault : MapFault → Fault MapRefusal
map_fault (map.Refused refusal) = above.Refused refusal
map_fault map.OutOfMemory = above.OutOfMemory
