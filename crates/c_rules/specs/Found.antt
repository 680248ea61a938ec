-- What the names are that a function's statements are checked with.
use Rattle.std.specs.Prelude.{◌++◌}
use Rattle.c_rules.specs.declared.around.Around.{Around}
use Rattle.c_rules.specs.Naming.{AreKinds, AreNumbered, AreEarlier}

-- the names are those of the file, of the function, and of the functions before it
pub record AreFound (around : Around) : Type 0 where
  pub globals : AreKinds around.file.now.globals around.globals.now
  pub locals : AreKinds (around.function.now.params ++ around.function.now.vars) around.locals.now
  pub functions : AreNumbered around.file.now.functions around.functions.now
  pub protos : AreNumbered around.file.now.protos around.protos.now
  pub names : AreEarlier around.earlier.now around.names.now
