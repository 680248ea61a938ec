use Rattle.std.proofs.Common.{◌≡◌, ◌∷◌, [], ◌+◌, suc, arith}
use Rattle.sl_tree.specs.Sorts.{spelled, class_word, trait_word}
use Rattle.sl_parse_expr.specs.Told.{behind}
use Rattle.sl_parse_expr.proofs.Telling.{comes, comes_not, token_here}
use Rattle.sl_parse.specs.Names.{Declared}
use Rattle.sl_parse.specs.Told.{found_tree}
use Rattle.sl_parse.proofs.Telling.{err_told, told_same}
use Rattle.sl_parse.proofs.DeclarationsRead.{class_found, trait_found, object_found, class_goes, trait_goes, object_goes, object_word_fault, class_name_fault, trait_name_fault, object_name_fault}
use Rattle.sl_parse.proofs.declarations.declared.Goals as goal

pub returns-in_err-name-clause-told : goal.returns-in_err-name-clause-told
returns-in_err-name-clause-told c =
    let file = c.args.file in
    let bytes = c.args.bytes.now in
    let tokens = c.args.tokens.now in
    let ts = behind bytes tokens c.args.start in
    let us = behind bytes tokens (c.args.start + 1) in
    let h = comes class_word c.peek-sort.result ts c.peek-sort.ensures.sort c.if-sort-eq-CLASS.true in
    let d = token_here bytes tokens c.args.start (c.args.start + 1) (class_word ∷ []) (omega arith) (c.peek-sort.ensures.present (omega arith)) h in
    let e = c.in_err-name.field-0.0 in
    err_told file bytes tokens (λ b. found_tree b Declared ts) e c.from_residual.result
    (class_name_fault file bytes tokens ts e d.0 us c.in_err-name.ensures.told h d.1) c.from_residual.ensures.1

pub returns-then-sort-eq-CLASS-clause-told : goal.returns-then-sort-eq-CLASS-clause-told
returns-then-sort-eq-CLASS-clause-told c =
    let file = c.args.file in
    let bytes = c.args.bytes.now in
    let tokens = c.args.tokens.now in
    let ts = behind bytes tokens c.args.start in
    let us = behind bytes tokens (c.args.start + 1) in
    let h = comes class_word c.peek-sort.result ts c.peek-sort.ensures.sort c.if-sort-eq-CLASS.true in
    let d = token_here bytes tokens c.args.start (c.args.start + 1) (class_word ∷ []) (omega arith) (c.peek-sort.ensures.present (omega arith)) h in
    let rest = behind bytes tokens (c.args.start + 2) in
    let at : suc (c.args.start + 1) ≡ c.args.start + 2 = omega arith in
    let k = spelled bytes c.in_ok-name.name in
    told_same file bytes tokens (class_found k rest) (λ b. found_tree b Declared ts) c.class_tail.result
    (λ b. class_goes b ts us rest d.0 k (rw (at) at c.in_ok-name.ensures.told) h d.1) c.class_tail.ensures.told

pub returns-in_err-name-2-clause-told : goal.returns-in_err-name-2-clause-told
returns-in_err-name-2-clause-told c =
    let file = c.args.file in
    let bytes = c.args.bytes.now in
    let tokens = c.args.tokens.now in
    let ts = behind bytes tokens c.args.start in
    let us = behind bytes tokens (c.args.start + 1) in
    let n = comes_not class_word c.peek-sort.result ts c.peek-sort.ensures.sort c.if-sort-eq-CLASS.false in
    let h = comes trait_word c.peek-sort.result ts c.peek-sort.ensures.sort c.if-sort-eq-TRAIT.true in
    let d = token_here bytes tokens c.args.start (c.args.start + 1) (trait_word ∷ []) (omega arith) (c.peek-sort.ensures.present (omega arith)) h in
    let e = c.in_err-name-2.field-0.0 in
    err_told file bytes tokens (λ b. found_tree b Declared ts) e c.from_residual-in_err-name-2.result
    (trait_name_fault file bytes tokens ts e d.0 us c.in_err-name-2.ensures.told n h d.1) c.from_residual-in_err-name-2.ensures.1

pub returns-then-sort-eq-TRAIT-clause-told : goal.returns-then-sort-eq-TRAIT-clause-told
returns-then-sort-eq-TRAIT-clause-told c =
    let file = c.args.file in
    let bytes = c.args.bytes.now in
    let tokens = c.args.tokens.now in
    let ts = behind bytes tokens c.args.start in
    let us = behind bytes tokens (c.args.start + 1) in
    let n = comes_not class_word c.peek-sort.result ts c.peek-sort.ensures.sort c.if-sort-eq-CLASS.false in
    let h = comes trait_word c.peek-sort.result ts c.peek-sort.ensures.sort c.if-sort-eq-TRAIT.true in
    let d = token_here bytes tokens c.args.start (c.args.start + 1) (trait_word ∷ []) (omega arith) (c.peek-sort.ensures.present (omega arith)) h in
    let rest = behind bytes tokens (c.args.start + 2) in
    let at : suc (c.args.start + 1) ≡ c.args.start + 2 = omega arith in
    let k = spelled bytes c.in_ok-name-2.name in
    told_same file bytes tokens (trait_found k rest) (λ b. found_tree b Declared ts) c.trait_tail.result
    (λ b. trait_goes b ts us rest d.0 k (rw (at) at c.in_ok-name-2.ensures.told) n h d.1) c.trait_tail.ensures.told

pub returns-in_err-expect-clause-told : goal.returns-in_err-expect-clause-told
returns-in_err-expect-clause-told c =
    let file = c.args.file in
    let bytes = c.args.bytes.now in
    let tokens = c.args.tokens.now in
    let ts = behind bytes tokens c.args.start in
    let n = comes_not class_word c.peek-sort.result ts c.peek-sort.ensures.sort c.if-sort-eq-CLASS.false in
    let h = comes_not trait_word c.peek-sort.result ts c.peek-sort.ensures.sort c.if-sort-eq-TRAIT.false in
    let e = c.in_err-expect.field-0.0 in
    err_told file bytes tokens (λ b. found_tree b Declared ts) e c.from_residual-in_err-expect.result
    (object_word_fault file bytes tokens ts e n h c.in_err-expect.ensures.told) c.from_residual-in_err-expect.ensures.1

pub returns-in_err-name-3-clause-told : goal.returns-in_err-name-3-clause-told
returns-in_err-name-3-clause-told c =
    let file = c.args.file in
    let bytes = c.args.bytes.now in
    let tokens = c.args.tokens.now in
    let ts = behind bytes tokens c.args.start in
    let us = behind bytes tokens (c.args.start + 1) in
    let n = comes_not class_word c.peek-sort.result ts c.peek-sort.ensures.sort c.if-sort-eq-CLASS.false in
    let h = comes_not trait_word c.peek-sort.result ts c.peek-sort.ensures.sort c.if-sort-eq-TRAIT.false in
    let next : suc c.args.start ≡ c.args.start + 1 = omega arith in
    let d = rw (next) at c.in_ok-expect.ensures.told in
    let e = c.in_err-name-3.field-0.0 in
    err_told file bytes tokens (λ b. found_tree b Declared ts) e c.from_residual-in_err-name-3.result
    (object_name_fault file bytes tokens ts e (spelled bytes c.in_ok-expect.field-0) us c.in_err-name-3.ensures.told n h d) c.from_residual-in_err-name-3.ensures.1

pub returns-clause-told : goal.returns-clause-told
returns-clause-told c =
    let file = c.args.file in
    let bytes = c.args.bytes.now in
    let tokens = c.args.tokens.now in
    let ts = behind bytes tokens c.args.start in
    let us = behind bytes tokens (c.args.start + 1) in
    let n = comes_not class_word c.peek-sort.result ts c.peek-sort.ensures.sort c.if-sort-eq-CLASS.false in
    let h = comes_not trait_word c.peek-sort.result ts c.peek-sort.ensures.sort c.if-sort-eq-TRAIT.false in
    let next : suc c.args.start ≡ c.args.start + 1 = omega arith in
    let d = rw (next) at c.in_ok-expect.ensures.told in
    let rest = behind bytes tokens (c.args.start + 2) in
    let at : suc (c.args.start + 1) ≡ c.args.start + 2 = omega arith in
    let k = spelled bytes c.in_ok-name-3.name in
    told_same file bytes tokens (object_found k rest) (λ b. found_tree b Declared ts) c.object_tail.result
    (λ b. object_goes b ts us rest (spelled bytes c.in_ok-expect.field-0) k (rw (at) at c.in_ok-name-3.ensures.told) n h d) c.object_tail.ensures.told
