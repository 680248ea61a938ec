-- What is read of a tree is written as a plain program has it: numbers of 64 bits, texts of printable bytes, and no negation.
use Rattle.std.proofs.Common.{◌≡◌, ◌≢◌, ℕ, ℤ, List, [], ◌∷◌, ◌++◌, map, Bool, true, false, ◌&&◌, ◌==◌, Option, Some, None, option_map, option_and_then, refl, sym, subst, bytes_eq, codes, if◌then◌else◌}
use Rattle.std.specs.Bool.{then_some}
use Rattle.std.specs.List.{AllByRecursion}
use Rattle.std.proofs.lemmas.Bool.{and_parts}
use Rattle.sl_num.specs.declared.arithmetic.Op.TheVariants.{Add, Sub, Mul, Div, Rem, Neg}
use Rattle.sl_num.specs.declared.comparing.Comparison.TheVariants.{Less, LessEqual, Greater, GreaterEqual, Equal, NotEqual}
use Rattle.sl_text.specs.declared.token.Kind as token_kind
use Rattle.sl_text.specs.declared.token.Kind.TheVariants as token
use Rattle.sl_tree.specs.declared.tree.TypeTerm.{TypeTerm}
use Rattle.sl_plain.specs.declared.program.Atom.{Atom}
use Rattle.sl_plain.specs.declared.program.Right.{Right}
use Rattle.sl_plain.specs.declared.program.Right.TheVariants.{Just, Compare, Apply, Get}
use Rattle.sl_plain.specs.declared.program.Condition.{Condition}
use Rattle.sl_plain.specs.declared.program.Stmt.{Stmt, roll-Stmt, Stmt-F, map-Stmt}
use Rattle.sl_plain.specs.declared.program.Stmt.TheOpen as open_stmt
use Rattle.sl_plain.specs.declared.program.Stmt.TheVariants as stmt
use Rattle.sl_plain.specs.declared.reading.expressions.Form.{Form}
use Rattle.sl_plain.specs.declared.reading.expressions.Form.TheVariants.{Name, Number, Text, Computed, Member, Called, CalledText, NotPlain}
use Rattle.sl_plain.specs.declared.reading.expressions.Sign.{Sign}
use Rattle.sl_plain.specs.declared.reading.expressions.Sign.TheVariants.{Compares, Applies}
use Rattle.sl_plain.specs.declared.reading.statements.Read.{Read}
use Rattle.sl_plain.specs.declared.reading.statements.Read.TheVariants as read
use Rattle.sl_plain.specs.Names.{is_name, is_number, is_text, number_of, between, quoted_in}
use Rattle.sl_plain.specs.Program.{joined, IsAtom, IsRight, IsCondition, Part, IsPart, parts_step, parts_in}
use Rattle.sl_plain.specs.Reading.{number_form, text_form, literal_of, atom_named, atom_of, right_of, condition_in, condition_of, short_sign, long_sign, sign_of, signed, member_of, name_in, called_right, called_with, called_bare, called_on, called, block_of, does, named, kind_of, declared, assigned, printed, called_stmt, chosen, repeated, until, counting, returned}
use Rattle.sl_plain.specs.Reading as reading
use Rattle.sl_plain.proofs.Layers.{parts_layer}
use Rattle.sl_plain.proofs.Names.{all_append}

-- where there is something, it is so
abbrev pub IfThere : {A : Type 0} → (A → Type 0) → Option A → Type 0
IfThere P None = Unit {0}
IfThere P (Some x) = P x

pub if_is : {A : Type 0} (P : A → Type 0) (b : Bool) (x y : A) → P x → P y → P (if b then x else y)
if_is P true x y h k = h
if_is P false x y h k = k

pub map_is : {A B : Type 0} (P : A → Type 0) (Q : B → Type 0) (f : A → B) → ((x : A) → P x → Q (f x)) → (found : Option A) → IfThere P found → IfThere Q (option_map f found)
map_is P Q f h None is = tt
map_is P Q f h (Some x) is = h x is

pub then_is : {A B : Type 0} (P : A → Type 0) (Q : B → Type 0) (f : A → Option B) → ((x : A) → P x → IfThere Q (f x)) → (found : Option A) → IfThere P found → IfThere Q (option_and_then f found)
then_is P Q f h None is = tt
then_is P Q f h (Some x) is = h x is

-- Expressions ---------------------------------------------------------------------------------------------------------

abbrev pub FormIs : Form → Type 0
FormIs (Name name) = Unit {0}
FormIs (Number number) = is_number number ≡ true
FormIs (Text text) = is_text text ≡ true
FormIs (Computed right) = IsRight right
FormIs (Member name member) = Unit {0}
FormIs (Called name right) = IsRight right
FormIs (CalledText name text) = is_text text ≡ true
FormIs NotPlain = Unit {0}

abbrev IsNumber : ℤ → Type 0
IsNumber number = is_number number ≡ true

abbrev IsText : List ℕ → Type 0
IsText text = is_text text ≡ true

-- what is found only where a test holds
cond_is : {A : Type 0} (P : A → Type 0) (b : Bool) (x : A) → (b ≡ true → P x) → IfThere P (if b then Some x else None)
cond_is P true x h = h refl
cond_is P false x h = tt

some_is : {A : Type 0} (P : A → Type 0) (b : Bool) (x : A) → (b ≡ true → P x) → IfThere P (then_some b x)
some_is P true x h = h refl
some_is P false x h = tt

number_is : (bytes : List ℕ) → IfThere IsNumber (number_of bytes)
unfolding number_of
number_is bytes = cond_is IsNumber _ _ (λ h. (and_parts _ _ h).1)

text_is : (bytes : List ℕ) → IfThere IsText (quoted_in bytes)
text_is bytes = then_is (λ text. Unit {0}) IsText (λ text. then_some (is_text text) text) (λ text _. some_is IsText (is_text text) text (λ h. h)) (between (codes "\"") (codes "\"") bytes) (any _)
  where
    any : (found : Option (List ℕ)) → IfThere (λ text. Unit {0}) found
    any None = tt
    any (Some text) = tt

number_form_is : (found : Option ℤ) → IfThere IsNumber found → FormIs (number_form found)
number_form_is None is = tt
number_form_is (Some number) is = is

text_form_is : (found : Option (List ℕ)) → IfThere IsText found → FormIs (text_form found)
text_form_is None is = tt
text_form_is (Some text) is = is

pub literal_is : (of : token_kind.Kind) (negative : Bool) (text : List ℕ) → FormIs (literal_of of negative text)
literal_is token.Number false text = number_form_is (number_of text) (number_is text)
literal_is token.Number true text = number_form_is (number_of (codes "-" ++ text)) (number_is (codes "-" ++ text))
literal_is token.Quoted false text = text_form_is (quoted_in text) (text_is text)
literal_is token.Quoted true text = tt
literal_is token.Ident negative text = tt
literal_is token.Word negative text = tt
literal_is token.Letter negative text = tt
literal_is token.Symbol negative text = tt
literal_is token.Prefixed negative text = tt
literal_is token.Operator negative text = tt
literal_is token.Mark negative text = tt
literal_is token.Separator negative text = tt

named_is : (name : List ℕ) → IfThere IsAtom (atom_named name)
named_is name =
    if_is (IfThere IsAtom) (bytes_eq name (codes "T")) _ _ tt
    (if_is (IfThere IsAtom) (bytes_eq name (codes "F")) _ _ tt
    (if_is (IfThere IsAtom) (is_name name) _ _ tt tt))

pub atom_is : (form : Form) → FormIs form → IfThere IsAtom (atom_of form)
atom_is (Name name) is = named_is name
atom_is (Number number) is = is
atom_is (Text text) is = tt
atom_is (Computed right) is = tt
atom_is (Member name member) is = tt
atom_is (Called name right) is = tt
atom_is (CalledText name text) is = tt
atom_is NotPlain is = tt

right_is : (form : Form) → FormIs form → IfThere IsRight (right_of form)
right_is (Name name) is = map_is IsAtom IsRight Just (λ x h. h) (atom_named name) (named_is name)
right_is (Number number) is = is
right_is (Text text) is = tt
right_is (Computed right) is = is
right_is (Member name member) is = tt
right_is (Called name right) is = tt
right_is (CalledText name text) is = tt
right_is NotPlain is = tt

condition_in_is : (right : Right) → IsRight right → IfThere IsCondition (condition_in right)
condition_in_is (Just atom) is = is
condition_in_is (Compare by a b) is = is
condition_in_is (Apply op a b line) is = tt
condition_in_is Get is = tt

pub condition_is : (form : Form) → FormIs form → IfThere IsCondition (condition_of form)
condition_is form is = then_is IsRight IsCondition condition_in condition_in_is (right_of form) (right_is form is)

abbrev pub IsSign : Sign → Type 0
IsSign (Compares by) = Unit {0}
IsSign (Applies op) = op ≢ Neg

-- a sign where a byte is this one, or another
sign_or : (byte code : ℕ) (sign : Sign) (others : Option Sign) → IsSign sign → IfThere IsSign others → IfThere IsSign (if byte == code then Some sign else others)
sign_or byte code sign others is more = if_is (IfThere IsSign) (byte == code) (Some sign) others is more

short_is : (byte : ℕ) → IfThere IsSign (short_sign byte)
short_is byte =
    sign_or byte 60 (Compares Less) _ tt
    (sign_or byte 62 (Compares Greater) _ tt
    (sign_or byte 43 (Applies Add) _ (λ e. cc)
    (sign_or byte 45 (Applies Sub) _ (λ e. cc)
    (sign_or byte 42 (Applies Mul) _ (λ e. cc)
    (sign_or byte 47 (Applies Div) _ (λ e. cc)
    (sign_or byte 37 (Applies Rem) None (λ e. cc) tt))))))

long_is : (byte : ℕ) → IfThere IsSign (long_sign byte)
long_is byte =
    sign_or byte 61 (Compares Equal) _ tt
    (sign_or byte 33 (Compares NotEqual) _ tt
    (sign_or byte 60 (Compares LessEqual) _ tt
    (sign_or byte 62 (Compares GreaterEqual) None tt tt)))

pub sign_is : (text : List ℕ) → IfThere IsSign (sign_of text)
sign_is [] = tt
sign_is (byte ∷ []) = short_is byte
sign_is (byte ∷ next ∷ []) = if_is (IfThere IsSign) (next == 61) (long_sign byte) None (long_is byte) tt
sign_is (byte ∷ next ∷ more ∷ bytes) = tt

pub joined_is : (sign : Option Sign) (a b : Option Atom) (line : ℕ) → IfThere IsSign sign → IfThere IsAtom a → IfThere IsAtom b → FormIs (reading.joined sign a b line)
joined_is (Some (Compares by)) (Some a) (Some b) line s h k = (h, k)
joined_is (Some (Applies op)) (Some a) (Some b) line s h k = (s, h, k)
joined_is (Some sign) (Some a) None line s h k = tt
joined_is (Some sign) None b line s h k = tt
joined_is None a b line s h k = tt

pub member_is : (form : Form) (member : List ℕ) → FormIs (member_of form member)
member_is (Name name) member = tt
member_is (Number number) member = tt
member_is (Text text) member = tt
member_is (Computed right) member = tt
member_is (Member name inner) member = tt
member_is (Called name right) member = tt
member_is (CalledText name text) member = tt
member_is NotPlain member = tt

called_right_is : (name : List ℕ) (found : Option Right) → IfThere IsRight found → FormIs (called_right name found)
called_right_is name None is = tt
called_right_is name (Some right) is = is

called_with_is : (name : List ℕ) (form : Form) → FormIs form → FormIs (called_with name form)
called_with_is name (Text text) is = is
called_with_is name (Name inner) is = called_right_is name (right_of (Name inner)) (right_is (Name inner) is)
called_with_is name (Number number) is = is
called_with_is name (Computed right) is = is
called_with_is name (Member inner member) is = tt
called_with_is name (Called inner right) is = tt
called_with_is name (CalledText inner text) is = tt
called_with_is name NotPlain is = tt

bare_is : (form : Form) → FormIs (called_bare form)
bare_is (Member name member) = if_is FormIs (bytes_eq name (codes "Port") && bytes_eq member (codes "get")) (Computed Get) NotPlain tt tt
bare_is (Name name) = tt
bare_is (Number number) = tt
bare_is (Text text) = tt
bare_is (Computed right) = tt
bare_is (Called name right) = tt
bare_is (CalledText name text) = tt
bare_is NotPlain = tt

on_is : (name : Option (List ℕ)) (argument : Form) → FormIs argument → FormIs (called_on name argument)
on_is (Some name) argument is = called_with_is name argument is
on_is None argument is = tt

pub called_is : (form : Form) (arguments : List Form) → AllByRecursion FormIs arguments → FormIs (called form arguments)
called_is form [] all = bare_is form
called_is form (argument ∷ []) all = on_is (name_in form) argument all.0
called_is form (first ∷ second ∷ others) all = tt

-- Statements ----------------------------------------------------------------------------------------------------------

abbrev pub StmtIs : Stmt → Type 0
StmtIs s = AllByRecursion IsPart (parts_in s)

abbrev pub StmtsAre : List Stmt → Type 0
StmtsAre stmts = AllByRecursion StmtIs stmts

abbrev pub ReadIs : Read → Type 0
ReadIs read.Passes = Unit {0}
ReadIs (read.Does s) = StmtIs s
ReadIs (read.Returns atom) = IsAtom atom
ReadIs read.NotPlain = Unit {0}

joined_are : (stmts : List Stmt) → StmtsAre stmts → AllByRecursion IsPart (joined (map parts_in stmts))
joined_are [] all = tt
joined_are (s ∷ stmts) all = all_append IsPart (parts_in s) (joined (map parts_in stmts)) all.0 (joined_are stmts all.1)

-- a statement of a layer
of_layer : (x : Stmt-F Stmt) (s : Stmt) → roll-Stmt x ≡ s → AllByRecursion IsPart (parts_step (map-Stmt Stmt (List Part) parts_in x)) → StmtIs s
of_layer x s rolls all = subst StmtIs rolls (subst (AllByRecursion IsPart) (sym (parts_layer x)) all)

pub block_is : (reads : List Read) → AllByRecursion ReadIs reads → IfThere StmtsAre (block_of reads)
block_is [] all = tt
block_is (read.Passes ∷ reads) all = block_is reads all.1
block_is (read.Does s ∷ reads) all = map_is StmtsAre StmtsAre (λ stmts. s ∷ stmts) (λ stmts are. (all.0, are)) (block_of reads) (block_is reads all.1)
block_is (read.Returns atom ∷ reads) all = tt
block_is (read.NotPlain ∷ reads) all = tt

pub does_is : (found : Option Stmt) → IfThere StmtIs found → ReadIs (does found)
does_is None is = tt
does_is (Some s) is = is

pub if_named : (name : List ℕ) (found : Option Stmt) → IfThere StmtIs found → IfThere StmtIs (named name found)
if_named name found is = if_is (IfThere StmtIs) (is_name name) found None is tt

any : {A : Type 0} (found : Option A) → IfThere (λ x. Unit {0}) found
any None = tt
any (Some x) = tt

pub declared_is : (var : Bool) (name : List ℕ) (ascribed : Option TypeTerm) (form : Form) → FormIs form → IfThere StmtIs (declared var name ascribed form)
declared_is var name ascribed form is =
    if_named name _
    (then_is (λ term. Unit {0}) StmtIs _
    (λ term _. then_is (λ type. Unit {0}) StmtIs _
    (λ type _. map_is IsRight StmtIs (stmt.Declare var name type) (λ right h. of_layer (open_stmt.Declare var name type right) _ (stmt.rolls-Declare var name type right) (h, tt)) (right_of form) (right_is form is))
    (kind_of term) (any (kind_of term)))
    ascribed (any ascribed))

pub assigned_is : (name : Option (List ℕ)) (form : Form) → FormIs form → IfThere StmtIs (assigned name form)
assigned_is (Some name) form is =
    if_named name _ (map_is IsRight StmtIs (stmt.Assign name) (λ right h. of_layer (open_stmt.Assign name right) _ (stmt.rolls-Assign name right) (h, tt)) (right_of form) (right_is form is))
assigned_is None form is = tt

printed_is : (right : Right) → IsRight right → IfThere StmtIs (printed right)
printed_is (Just atom) is = of_layer (open_stmt.Print atom) _ (stmt.rolls-Print atom) (is, tt)
printed_is (Compare by a b) is = tt
printed_is (Apply op a b line) is = tt
printed_is Get is = tt

pub call_is : (form : Form) (line : ℕ) → FormIs form → IfThere StmtIs (called_stmt form line)
call_is (CalledText name text) line is =
    if_is (IfThere StmtIs) (bytes_eq name (codes "println")) _ _ (of_layer (open_stmt.PrintText text) _ (stmt.rolls-PrintText text) (is, tt))
    (if_is (IfThere StmtIs) (bytes_eq name (codes "halt")) _ _ (of_layer (open_stmt.Halt text line) _ (stmt.rolls-Halt text line) (is, tt)) tt)
call_is (Called name right) line is =
    if_is (IfThere StmtIs) (bytes_eq name (codes "println")) _ _ (printed_is right is)
    (if_is (IfThere StmtIs) (bytes_eq name (codes "assert")) _ _
    (map_is IsCondition StmtIs (λ test. stmt.Assert test line) (λ test h. of_layer (open_stmt.Assert test line) _ (stmt.rolls-Assert test line) (h, tt)) (condition_in right) (condition_in_is right is)) tt)
call_is (Name name) line is = tt
call_is (Number number) line is = tt
call_is (Text text) line is = tt
call_is (Computed right) line is = tt
call_is (Member name member) line is = tt
call_is NotPlain line is = tt

pub chosen_is : (test : Option Condition) (stmts others : Option (List Stmt)) → IfThere IsCondition test → IfThere StmtsAre stmts → IfThere StmtsAre others → IfThere StmtIs (chosen test stmts others)
chosen_is (Some test) (Some stmts) (Some others) t h k =
    of_layer (open_stmt.If test stmts others) _ (stmt.rolls-If test stmts others) (t, all_append IsPart (joined (map parts_in stmts)) (joined (map parts_in others)) (joined_are stmts h) (joined_are others k))
chosen_is (Some test) (Some stmts) None t h k = tt
chosen_is (Some test) None others t h k = tt
chosen_is None stmts others t h k = tt

pub repeated_is : (test : Option Condition) (stmts : Option (List Stmt)) → IfThere IsCondition test → IfThere StmtsAre stmts → IfThere StmtIs (repeated test stmts)
repeated_is (Some test) (Some stmts) t h = of_layer (open_stmt.While test stmts) _ (stmt.rolls-While test stmts) (t, joined_are stmts h)
repeated_is (Some test) None t h = tt
repeated_is None stmts t h = tt

pub counting_is : (name : List ℕ) (first end : Option Atom) (stmts : Option (List Stmt)) (line : ℕ) → IfThere IsAtom first → IfThere IsAtom end → IfThere StmtsAre stmts → IfThere StmtIs (counting name first end stmts line)
counting_is name (Some first) (Some end) (Some stmts) line f e h = of_layer (open_stmt.For name first end stmts line) _ (stmt.rolls-For name first end stmts line) (f, (e, joined_are stmts h))
counting_is name (Some first) (Some end) None line f e h = tt
counting_is name (Some first) None stmts line f e h = tt
counting_is name None end stmts line f e h = tt

pub returned_is : (found : Option Atom) → IfThere IsAtom found → ReadIs (returned found)
returned_is None is = tt
returned_is (Some atom) is = is

pub until_is : (to : Bool) (found : Option Stmt) → IfThere StmtIs found → IfThere StmtIs (until to found)
until_is to found is = if_is (IfThere StmtIs) to None found tt is
