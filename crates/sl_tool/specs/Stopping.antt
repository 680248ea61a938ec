-- What a refused call of the folder stops a command for.
use Rattle.sl_outside.specs.declared.folder.Refused.{Refused}
use Rattle.sl_outside.specs.declared.folder.Refused.TheVariants as refused
use Rattle.sl_tool.specs.declared.stop.Stop.{Stop}
use Rattle.sl_tool.specs.declared.stop.Stop.TheVariants as stop

-- a fault of the folder, or no memory
abbrev pub stop_of : Refused → Stop
stop_of refused.Failed = stop.Folder
stop_of refused.Mem = stop.Mem
