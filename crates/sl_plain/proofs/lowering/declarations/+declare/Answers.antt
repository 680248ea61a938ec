use Rattle.std.proofs.Common.{[], ◌∷◌, ◌++◌, false, map, sym, ap, subst, ◌∙◌, flat_map}
use Rattle.sl_plain.specs.Program.{joined, declared_in, counted}
use Rattle.sl_plain.specs.Numbering.{AreNumbered}
use Rattle.sl_plain.proofs.Runs.{joined_map}
use Rattle.sl_plain.proofs.Forms.{declared_of_declare, declared_of_assign, declared_of_print, declared_of_print_text, declared_of_if, declared_of_while, declared_of_for, declared_of_assert, declared_of_halt, on_ok_so, declares_none, declares_then, declares_same}
use Rattle.sl_plain.proofs.lowering.declarations.+declare.Goals as goal

pub declare_stmt-returns-in-Declare : goal.declare_stmt-returns-in-Declare
declare_stmt-returns-in-Declare t c =
    rw (c.in-Declare.is, declared_of_declare c.in-Declare.field-0 c.in-Declare.name c.in-Declare.kind c.in-Declare.field-3)
    (on_ok_so _ _ c.add.result c.add.ensures
    (λ h before numbered. subst (λ name. AreNumbered (before ++ record { name = name; is_var = c.in-Declare.field-0; type = c.in-Declare.kind } ∷ []) c.add.new.self) c.as_slice.ensures (h before c.in-Declare.field-0 numbered)))

pub declare_stmt-returns-in_ok-declare_block-in-If : goal.declare_stmt-returns-in_ok-declare_block-in-If
declare_stmt-returns-in_ok-declare_block-in-If t c =
    rw (c.in-If.is, declared_of_if c.in-If.field-0 c.in-If.chosen c.in-If.other)
    (on_ok_so _ _ c.declare_block-in-If.result c.declare_block-in-If.ensures
    (λ second. declares_then (joined (map declared_in c.in-If.chosen)) (joined (map declared_in c.in-If.other)) c.args.variables.now c.declare_block.new.variables c.declare_block-in-If.new.variables
    (declares_same (flat_map declared_in c.as_slice-in-If.result.now) (joined (map declared_in c.in-If.chosen)) c.args.variables.now c.declare_block.new.variables
    (ap (flat_map declared_in) c.as_slice-in-If.ensures ∙ sym (joined_map declared_in c.in-If.chosen)) c.in_ok-declare_block-in-If.ensures)
    (declares_same (flat_map declared_in c.as_slice-in-If-2.result.now) (joined (map declared_in c.in-If.other)) c.declare_block.new.variables c.declare_block-in-If.new.variables
    (ap (flat_map declared_in) c.as_slice-in-If-2.ensures ∙ sym (joined_map declared_in c.in-If.other)) second)))

pub declare_stmt-returns-in-While : goal.declare_stmt-returns-in-While
declare_stmt-returns-in-While t c =
    rw (c.in-While.is, declared_of_while c.in-While.field-0 c.in-While.body)
    (on_ok_so _ _ c.declare_block-in-While.result c.declare_block-in-While.ensures
    (λ h. declares_same (flat_map declared_in c.as_slice-in-While.result.now) (joined (map declared_in c.in-While.body)) c.args.variables.now c.declare_block-in-While.new.variables
    (ap (flat_map declared_in) c.as_slice-in-While.ensures ∙ sym (joined_map declared_in c.in-While.body)) h))

pub declare_stmt-returns-in_ok-add-in-For : goal.declare_stmt-returns-in_ok-add-in-For
declare_stmt-returns-in_ok-add-in-For t c =
    rw (c.in-For.is, declared_of_for c.in-For.name c.in-For.field-1 c.in-For.field-2 c.in-For.body c.in-For.field-4)
    (on_ok_so _ _ c.declare_block-in-For.result c.declare_block-in-For.ensures
    (λ h. declares_then (counted c.in-For.name ∷ []) (joined (map declared_in c.in-For.body)) c.args.variables.now c.add-in-For.new.self c.declare_block-in-For.new.variables
    (λ before numbered. subst (λ name. AreNumbered (before ++ counted name ∷ []) c.add-in-For.new.self) c.as_slice-in-For.ensures (c.in_ok-add-in-For.ensures before false numbered))
    (declares_same (flat_map declared_in c.as_slice-in-For-2.result.now) (joined (map declared_in c.in-For.body)) c.add-in-For.new.self c.declare_block-in-For.new.variables
    (ap (flat_map declared_in) c.as_slice-in-For-2.ensures ∙ sym (joined_map declared_in c.in-For.body)) h)))

pub declare_stmt-returns-in-Assign : goal.declare_stmt-returns-in-Assign
declare_stmt-returns-in-Assign t c = rw c.in-Assign.is (declares_none _ _ (declared_of_assign _ _))

pub declare_stmt-returns-in-Print : goal.declare_stmt-returns-in-Print
declare_stmt-returns-in-Print t c = rw c.in-Print.is (declares_none _ _ (declared_of_print _))

pub declare_stmt-returns-in-PrintText : goal.declare_stmt-returns-in-PrintText
declare_stmt-returns-in-PrintText t c = rw c.in-PrintText.is (declares_none _ _ (declared_of_print_text _))

pub declare_stmt-returns-in-Assert : goal.declare_stmt-returns-in-Assert
declare_stmt-returns-in-Assert t c = rw c.in-Assert.is (declares_none _ _ (declared_of_assert _ _))

pub declare_stmt-returns-in-Halt : goal.declare_stmt-returns-in-Halt
declare_stmt-returns-in-Halt t c = rw c.in-Halt.is (declares_none _ _ (declared_of_halt _ _))
