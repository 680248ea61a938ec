-- A list of tokens has one tree at most, however deep.
use Rattle.std.proofs.Common.{◌≡◌, ℕ, List, [], refl, sym, ap, ◌∙◌, Bool}
use Rattle.std.specs.Prelude.{None}
use Rattle.sl_tree.specs.Sorts.{Spelled}
use Rattle.sl_tree.specs.Declarations.{IsImport, IsNote, IsMember, IsDecl, IsFile, file_of}
use Rattle.sl_tree.specs.declared.tree.Note.{Note}
use Rattle.sl_tree.specs.declared.tree.Decl.{Decl}
use Rattle.sl_tree.specs.declared.tree.Import.{Import}
use Rattle.sl_tree.specs.declared.tree.File.{File}
use Rattle.sl_parse.specs.Names.{Name, Import_of, Note_of, Member, Decl_of, File_of}
use Rattle.sl_parse.specs.Values.{tree_of, whole}
use Rattle.sl_parse.specs.Grammar.{Unlimited, spells_tree}
use Rattle.sl_parse.proofs.Laws.{one_tree}

one : (n : Name) (x y : tree_of n) (ts : List Spelled) → spells_tree None n x ts → spells_tree None n y ts → x ≡ y
one n x y ts a b = ap (λ w. w.0) (one_tree Unlimited n (x, whole ts) (y, whole ts) ts (a, refl) (b, refl))

pub one_import : {x y : Import} {ts : List Spelled} → IsImport x ts → IsImport y ts → x ≡ y
one_import {x} {y} {ts} a b = one Import_of x y ts a b

pub one_note : {x y : Note} {ts : List Spelled} → IsNote None x ts → IsNote None y ts → x ≡ y
one_note {x} {y} {ts} a b = one Note_of x y ts a b

pub one_member : {globals : Bool} {x y : Decl} {ts : List Spelled} → IsMember None globals x ts → IsMember None globals y ts → x ≡ y
one_member {globals} {x} {y} {ts} a b = one (Member globals) x y ts a b

pub one_decl : {x y : Decl} {ts : List Spelled} → IsDecl None x ts → IsDecl None y ts → x ≡ y
one_decl {x} {y} {ts} a b = one Decl_of x y ts a b

-- a file with other line feeds
abbrev fed : List ℕ → File → File
fed feeds x = record x { feeds = feeds }

unfed : {feeds : List ℕ} {x : File} {ts : List Spelled} → IsFile None feeds x ts → IsFile None [] (fed [] x) ts × (fed feeds x ≡ x)
unfed {feeds} (file_of h hl w e ex) = (file_of h hl w e (ap (fed []) ex), ap (fed feeds) ex ∙ sym ex)

pub one_file : {feeds : List ℕ} {x y : File} {ts : List Spelled} → IsFile None feeds x ts → IsFile None feeds y ts → x ≡ y
one_file {feeds} {x} {y} {ts} a b =
    let (u, p) = unfed a in
    let (v, q) = unfed b in
    sym p ∙ (ap (fed feeds) (one File_of (fed [] x) (fed [] y) ts u v) ∙ q)
