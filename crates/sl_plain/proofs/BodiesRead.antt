-- What is read of statements one after another: a block, and a body with what it returns.
use Rattle.std.proofs.Common.{◌≡◌, List, [], ◌∷◌, ◌++◌, Bool, true, false, Option, Some, None, option_map, refl, sym, ap, append-nil, append_assoc, if◌then◌else◌}
use Rattle.std.specs.List.{list_all}
use Rattle.sl_plain.specs.declared.program.Atom.{Atom}
use Rattle.sl_plain.specs.declared.program.Stmt.{Stmt}
use Rattle.sl_plain.specs.declared.reading.statements.Read.{Read}
use Rattle.sl_plain.specs.declared.reading.statements.Read.TheVariants as read
use Rattle.sl_plain.specs.Reading.{block_of, is_passed, body_of, body_behind}

-- statements before a block
abbrev pub block_behind : List Stmt → List Read → Option (List Stmt)
block_behind stmts reads = option_map (λ rest. stmts ++ rest) (block_of reads)

pub block_begins : (reads : List Read) → block_of reads ≡ block_behind [] reads
block_begins reads = same (block_of reads)
  where
    same : (found : Option (List Stmt)) → found ≡ option_map (λ rest. [] ++ rest) found
    same None = refl
    same (Some stmts) = refl

pub block_does : (stmts : List Stmt) (s : Stmt) (reads : List Read) → block_behind stmts (read.Does s ∷ reads) ≡ block_behind (stmts ++ s ∷ []) reads
block_does stmts s reads = same (block_of reads)
  where
    same : (found : Option (List Stmt)) → option_map (λ rest. stmts ++ rest) (option_map (λ rest. s ∷ rest) found) ≡ option_map (λ rest. (stmts ++ s ∷ []) ++ rest) found
    same None = refl
    same (Some rest) = ap Some (sym (append_assoc stmts (s ∷ []) rest))

pub block_ends : (stmts : List Stmt) → block_behind stmts [] ≡ Some stmts
block_ends stmts = ap Some (append-nil stmts)

-- a statement before a body, and some
abbrev pub with_stmt : Stmt → List Stmt × Atom → List Stmt × Atom
with_stmt s rest = (s ∷ rest.0, rest.1)

abbrev pub with_stmts : List Stmt → List Stmt × Atom → List Stmt × Atom
with_stmts stmts rest = (stmts ++ rest.0, rest.1)

pub body_begins : (reads : List Read) → body_of reads ≡ body_behind [] None reads
body_begins reads = same (body_of reads)
  where
    same : (found : Option (List Stmt × Atom)) → found ≡ option_map (with_stmts []) found
    same None = refl
    same (Some body) = refl

pub body_passes : (stmts : List Stmt) (returned : Option Atom) (reads : List Read) → body_behind stmts returned (read.Passes ∷ reads) ≡ body_behind stmts returned reads
body_passes stmts None reads = refl
body_passes stmts (Some atom) reads = refl

pub body_does : (stmts : List Stmt) (s : Stmt) (reads : List Read) → body_behind stmts None (read.Does s ∷ reads) ≡ body_behind (stmts ++ s ∷ []) None reads
body_does stmts s reads = same (body_of reads)
  where
    same : (found : Option (List Stmt × Atom)) → option_map (with_stmts stmts) (option_map (with_stmt s) found) ≡ option_map (with_stmts (stmts ++ s ∷ [])) found
    same None = refl
    same (Some body) = ap {B = Option (List Stmt × Atom)} (λ rest. Some (rest, body.1)) (sym (append_assoc stmts (s ∷ []) body.0))

pub body_returns : (stmts : List Stmt) (atom : Atom) (reads : List Read) → body_behind stmts None (read.Returns atom ∷ reads) ≡ body_behind stmts (Some atom) reads
body_returns stmts atom reads = same (list_all is_passed reads)
  where
    same : (b : Bool) → option_map (with_stmts stmts) (if b then Some ([], atom) else None) ≡ (if b then Some (stmts, atom) else None)
    same true = ap {B = Option (List Stmt × Atom)} (λ rest. Some (rest, atom)) (append-nil stmts)
    same false = refl

pub body_stops : (stmts : List Stmt) (returned : Option Atom) (reads : List Read) → body_behind stmts returned (read.NotPlain ∷ reads) ≡ None
body_stops stmts None reads = refl
body_stops stmts (Some atom) reads = refl

pub body_over : (stmts : List Stmt) (atom : Atom) (s : Stmt) (reads : List Read) → body_behind stmts (Some atom) (read.Does s ∷ reads) ≡ None
body_over stmts atom s reads = refl

pub body_twice : (stmts : List Stmt) (atom other : Atom) (reads : List Read) → body_behind stmts (Some atom) (read.Returns other ∷ reads) ≡ None
body_twice stmts atom other reads = refl

pub ruleset body_rules = (body_passes, body_does, body_returns, body_stops, body_over, body_twice)
