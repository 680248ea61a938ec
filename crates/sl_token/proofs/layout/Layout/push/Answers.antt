use Rattle.std.proofs.Common.{◌≡◌, ◌+◌, ◌≤◌, ◌++◌, [], ◌∷◌, length, arith, length-append, refl, ap, ◌∙◌}
use Rattle.std.proofs.lemmas.Result.{on_ok_weaker}
use Rattle.std.specs.Option.{option_to_list}
use Rattle.sl_token.specs.Layout.{waiting, levels_behind, spelling, separator}
use Rattle.sl_token.proofs.Layouts.{waiting_passed, is_layout_push}
use Rattle.sl_token.proofs.layout.Layout.push.Goals as goal

pub invariant_of-self-2 : goal.invariant_of-self-2
invariant_of-self-2 c =
    let most : waiting c.pass.new.self ≤ waiting c.lay_separator.new.self.levels + 1 =
    waiting_passed
    c.pass.result
    c.args.token.kind
    c.spelling-bytes.result.now
    c.lay_separator.new.self.levels
    c.pass.new.self
    c.pass.ensures.ok
    c.pass.ensures.err in
    let before : waiting c.lay_separator.new.self.levels ≤ length c.lay_separator.new.self.laid.items =
    c.lay_separator.new.self.counted in
    let one_more : length c.push.new.self.items ≡ length c.lay_separator.new.self.laid.items + 1 =
    ap length c.in_ok-push.ensures.items ∙ length-append c.lay_separator.new.self.laid.items (c.args.token ∷ []) in
    record { counted = omega (arith, most, before, one_more) }

pub returns : goal.returns
returns c =
    let bytes : c.lay_separator.new.self.bytes.now ≡ c.args.self.now.bytes.now =
    ap (λ bytes. bytes.now) c.lay_separator.ensures.bytes in
    let laid :
    c.push.new.self.items
    ≡ (c.args.self.now.laid.items
    ++ option_to_list
    (separator c.args.self.now.bytes.now c.args.self.now.levels c.args.self.now.last c.args.token))
    ++ c.args.token ∷ [] =
    cc (c.in_ok-push.ensures.items, c.in_ok-lay_separator.ensures.laid) in
    let spelled : c.spelling-bytes.result.now ≡ spelling c.args.self.now.bytes.now c.args.token =
    c.spelling-bytes.ensures ∙ ap (λ bytes. spelling bytes c.args.token) bytes in
    let levels :
    c.pass.new.self ≡ levels_behind c.args.token.kind c.spelling-bytes.result.now c.lay_separator.new.self.levels
    → c.pass.new.self ≡ levels_behind c.args.token.kind (spelling c.args.self.now.bytes.now c.args.token) c.args.self.now.levels =
    λ passed. rw (← c.lay_separator.ensures.levels, ← spelled) passed in
    on_ok_weaker
    c.pass.result
    (λ passed text tokens is.
    is_layout_push text tokens c.args.token c.args.self.now _ bytes laid refl (levels passed) is)
    c.pass.ensures.ok
