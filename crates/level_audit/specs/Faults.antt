-- A fault of a part of a scene as that of an audit.
use Rattle.level_audit.specs.Rules.{AuditRefusal, Fault, Scene, fault_above}
use Rattle.level_scene.specs.{declared.fault.SceneFault.SceneFault, Faults.scene_fault}

abbrev pub above_scene : SceneFault → Fault AuditRefusal
above_scene fault = fault_above Scene (scene_fault fault)
