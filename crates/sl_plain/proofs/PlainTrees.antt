-- The program of a plain tree is a plain program.
use Rattle.std.proofs.Common.{◌≡◌, ℕ, ◌≤◌, List, [], ◌∷◌, map, Bool, true, false, ◌&&◌, Option, Some, None, option_map, option_and_then, codes, refl, subst, arith, if◌then◌else◌}
use Rattle.std.specs.Bool.{then_some}
use Rattle.std.specs.List.{AllByRecursion, flat_map, list_all}
use Rattle.std.proofs.lemmas.Bool.{and_parts}
use Rattle.std.proofs.lemmas.Option.{option_and_then_some}
use Rattle.sl_tree.specs.declared.tree.Stmt as source
use Rattle.sl_tree.specs.declared.tree.Body.{Body}
use Rattle.sl_tree.specs.declared.tree.Body.TheVariants as body
use Rattle.sl_tree.specs.declared.tree.Decl.{Decl, out-Decl}
use Rattle.sl_tree.specs.declared.tree.DeclKind.{DeclKind, out-DeclKind}
use Rattle.sl_tree.specs.declared.tree.DeclKind.TheOpen as decl
use Rattle.sl_tree.specs.declared.tree.File.{File}
use Rattle.sl_plain.specs.declared.program.Atom.{Atom}
use Rattle.sl_plain.specs.declared.program.Stmt.{Stmt}
use Rattle.sl_plain.specs.declared.program.Plain.{Plain}
use Rattle.sl_plain.specs.declared.reading.statements.Read.{Read}
use Rattle.sl_plain.specs.declared.reading.statements.Read.TheVariants as read
use Rattle.sl_plain.specs.Names.{is_app_name}
use Rattle.sl_plain.specs.Program.{IsAtom, AnAtom, IsPart, parts_in, parts, depth, deepest, declared, program_fits, IsProgram}
use Rattle.sl_plain.specs.Checking.{declared_names, are_distinct, is_shallow, passes}
use Rattle.sl_plain.specs.Reading.{read_of, is_none, are_one_type, is_passed, body_of, reads_of, is_main, main_of, member_main, app_of, decl_app, unchecked_of, plain_of}
use Rattle.sl_plain.proofs.Names.{all_append, to_all}
use Rattle.sl_plain.proofs.Between.{then_some_parts}
use Rattle.sl_plain.proofs.Greatest.{greatest_bounds}
use Rattle.sl_plain.proofs.Checked.Distinct.{distinct_found}
use Rattle.sl_plain.proofs.BodiesRead.{with_stmt}
use Rattle.sl_plain.proofs.WrittenParts.{IfThere, if_is, map_is, then_is, StmtsAre, ReadIs}
use Rattle.sl_plain.proofs.TreesWritten.{stmt_is}

-- what is found only where a test holds
where_is : {A : Type 0} (P : A → Type 0) (b : Bool) (found : Option A) → (b ≡ true → IfThere P found) → IfThere P (if b then found else None)
where_is P true found h = h refl
where_is P false found h = tt

abbrev BodyIs : List Stmt × Atom → Type 0
BodyIs found = StmtsAre found.0 × IsAtom found.1

abbrev ProgramIs : Plain → Type 0
ProgramIs program = (is_app_name program.name ≡ true) × AllByRecursion IsPart (parts program)

body_is : (reads : List Read) → AllByRecursion ReadIs reads → IfThere BodyIs (body_of reads)
body_is [] all = tt
body_is (read.Passes ∷ reads) all = body_is reads all.1
body_is (read.Does s ∷ reads) all = map_is BodyIs BodyIs (with_stmt s) (λ rest is. ((all.0, is.0), is.1)) (body_of reads) (body_is reads all.1)
body_is (read.Returns atom ∷ reads) all =
    let body : List Stmt × Atom = ([], atom)
    in if_is (IfThere BodyIs) (list_all is_passed reads) (Some body) None (tt, all.0) tt
body_is (read.NotPlain ∷ reads) all = tt

-- an App of what was found in it
abbrev app_from : List ℕ → List Stmt × Atom → Plain
app_from name found = record { name = name; body = found.0; value = found.1 }

module _ (feeds : List ℕ) where
  reads_all : (stmts : List source.Stmt) → AllByRecursion ReadIs (map (read_of feeds) stmts)
  reads_all [] = tt
  reads_all (s ∷ stmts) = (stmt_is feeds s, reads_all stmts)

  reads_are : (given : Option Body) → IfThere (AllByRecursion ReadIs) (reads_of feeds given)
  reads_are None = tt
  reads_are (Some (body.Block stmts)) = reads_all stmts
  reads_are (Some (body.Value value)) = tt

  main_is : (x : decl.DeclKind-F DeclKind Decl) → IfThere BodyIs (main_of feeds x)
  main_is (decl.Method overrides name types params result given) =
      if_is (IfThere BodyIs) (is_main overrides name types params result) (option_and_then body_of (reads_of feeds given)) None
      (then_is (AllByRecursion ReadIs) BodyIs body_of body_is (reads_of feeds given) (reads_are given)) tt
  main_is (decl.Enum text names) = tt
  main_is (decl.Ints text) = tt
  main_is (decl.Class text types params parents methods) = tt
  main_is (decl.Trait text types parents methods) = tt
  main_is (decl.Object text parents members) = tt
  main_is (decl.Global overrides assigned text ascribed value) = tt

  member_is : (members : Option (List Decl)) → IfThere BodyIs (member_main feeds members)
  member_is None = tt
  member_is (Some []) = tt
  member_is (Some (member ∷ [])) =
      if_is (IfThere BodyIs) (is_none (out-Decl member).notes) (main_of feeds (out-DeclKind (out-Decl member).kind)) None (main_is (out-DeclKind (out-Decl member).kind)) tt
  member_is (Some (member ∷ other ∷ members)) = tt

  flat_are : (stmts : List Stmt) → StmtsAre stmts → AllByRecursion IsPart (flat_map parts_in stmts)
  flat_are [] all = tt
  flat_are (s ∷ stmts) all = all_append IsPart (parts_in s) (flat_map parts_in stmts) all.0 (flat_are stmts all.1)

  app_is : (x : decl.DeclKind-F DeclKind Decl) → IfThere ProgramIs (app_of feeds x)
  app_is (decl.Object name parents members) =
      where_is ProgramIs (is_app_name name && are_one_type (codes "App") parents) (option_map (app_from name) (member_main feeds members))
      (λ so. map_is BodyIs ProgramIs (app_from name)
      (λ found is. ((and_parts (is_app_name name) (are_one_type (codes "App") parents) so).0, all_append IsPart (flat_map parts_in found.0) (AnAtom found.1 ∷ []) (flat_are found.0 is.0) (is.1, tt)))
      (member_main feeds members) (member_is members))
  app_is (decl.Enum text names) = tt
  app_is (decl.Ints text) = tt
  app_is (decl.Class text types params parents methods) = tt
  app_is (decl.Trait text types parents methods) = tt
  app_is (decl.Method overrides text types params result given) = tt
  app_is (decl.Global overrides assigned text ascribed value) = tt

  decl_is : (decls : List Decl) → IfThere ProgramIs (decl_app feeds decls)
  decl_is [] = tt
  decl_is (declared ∷ []) =
      if_is (IfThere ProgramIs) (is_none (out-Decl declared).notes) (app_of feeds (out-DeclKind (out-Decl declared).kind)) None (app_is (out-DeclKind (out-Decl declared).kind)) tt
  decl_is (declared ∷ other ∷ decls) = tt

unchecked_is : (file : File) (program : Plain) → unchecked_of file ≡ Some program → ProgramIs program
unfolding unchecked_of
unchecked_is file program at =
    subst (IfThere ProgramIs) at
    (if_is (IfThere ProgramIs) (is_none file.«package» && is_none file.imports) (decl_app file.feeds file.decls) None (decl_is file.feeds file.decls) tt)

-- no deeper than 16
all_within : (most : ℕ) (stmts : List Stmt) → AllByRecursion (λ n. n ≤ most) (map depth stmts) → most ≤ 16 → AllByRecursion (λ s. depth s ≤ 16) stmts
all_within most [] all le = tt
all_within most (s ∷ stmts) all le = (let first = all.0 in omega arith, all_within most stmts all.1 le)

shallow_is : (program : Plain) → is_shallow program ≡ true → AllByRecursion (λ s. depth s ≤ 16) program.body
shallow_is program so = all_within (deepest (map depth program.body)) program.body (greatest_bounds 0 (map depth program.body)) (grind arith)

passed : (program : Plain) → ProgramIs program → passes program ≡ true → IsProgram program
passed program is so =
    let tests = and_parts (is_shallow program && are_distinct (declared_names program)) (program_fits program) so in
    let others = and_parts (is_shallow program) (are_distinct (declared_names program)) tests.0
    in record {
      name = is.0;
      written = to_all IsPart (parts program) is.1;
      depth = to_all (λ s. depth s ≤ 16) program.body (shallow_is program others.0);
      distinct = distinct_found (declared_names program) others.1;
      fits = tests.1;
    }

pub is_program : (file : File) (program : Plain) → plain_of file ≡ Some program → IsProgram program
unfolding plain_of
is_program file program found =
    option_and_then_some (λ program. then_some (passes program) program) (unchecked_of file) program found
    (λ unchecked at pass.
    let parts = then_some_parts (passes unchecked) unchecked program pass
    in subst IsProgram parts.1 (passed unchecked (unchecked_is file unchecked at) parts.0))
