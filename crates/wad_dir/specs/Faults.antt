-- What the faults of a directory tell.
use Rattle.wad_dir.specs.Rules.{DirRefusal, Fault, OutOfMemory, ReadFault, Refused}
use Rattle.wad_dir.specs.declared.fault.DirFault.{DirFault}
use Rattle.wad_dir.specs.declared.fault.DirFault.TheVariants.{Refused, ReadFault, OutOfMemory}

abbrev pub dir_fault : DirFault → Fault DirRefusal
dir_fault (Refused refusal) = Refused refusal
dir_fault ReadFault = ReadFault
dir_fault OutOfMemory = OutOfMemory
