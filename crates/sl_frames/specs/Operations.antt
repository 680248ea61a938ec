-- The C of what the code keeps of an operation.
use Rattle.std.specs.Prelude.{ℕ, List}
use Rattle.sl_num.specs.declared.arithmetic.Op.{Op}
use Rattle.c_tree.specs.declared.tree.CBinary.{CBinary}
use Rattle.c_tree.specs.declared.tree.CExpr.TheVariants.{Binary}
use Rattle.c_tree.specs.declared.tree.CStmt.{CStmt}
use Rattle.sl_frames.specs.declared.operations.Operation.{Operation}
use Rattle.sl_frames.specs.Translated.{where_it_fits, operate}

-- the statements of an operation
abbrev pub operated : Op → Operation → List CStmt
operated op operation = operate op operation.target operation.left operation.right operation.file operation.line

-- the statements that compute with this operator where the helper with this name says that the result is in the type
abbrev pub fitted : List ℕ → CBinary → Operation → List CStmt
fitted helper operator operation =
    where_it_fits operation.target helper operation.left operation.right operation.file operation.line (Binary operator operation.left operation.right)
