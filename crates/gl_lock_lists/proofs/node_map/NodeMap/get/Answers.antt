use Rattle.gl_lock_lists.proofs.Words.{◌∙◌, ap, Found-position, Missing-position, option_map, same_node, slice_get-map, sym}
use Rattle.std.specs.Option.{option_copied}
use Rattle.gl_lock_lists.proofs.node_map.NodeMap.get.Goals as goal

pub returns-in_err-place : goal.returns-in_err-place
returns-in_err-place g c = record {
  value = ap option_copied c.from_residual.ensures
      ∙ sym (Missing-position (same_node c.args.node) c.args.self.now.entries (sym c.in_err-place.ensures.place)).value;
}

pub returns-in_err-value : goal.returns-in_err-value
returns-in_err-value g c =
    let es = c.args.self.now.entries in
    let at = c.in_ok-place.field-0 in
    record {
      value = ap option_copied c.from_residual-in_err-value.ensures
          ∙ sym ((Found-position (same_node c.args.node) es at (sym c.in_ok-place.ensures.place)).value
          ∙ (slice_get-map (λ e. e.1) es at ∙ ap (option_map (λ e. e.1)) (sym c.in_err-value.ensures.entry)));
    }

pub returns : goal.returns
returns g c =
    let es = c.args.self.now.entries in
    let at = c.in_ok-place.field-0 in
    record {
      value = sym ((Found-position (same_node c.args.node) es at (sym c.in_ok-place.ensures.place)).value
          ∙ (slice_get-map (λ e. e.1) es at ∙ ap (option_map (λ e. e.1)) (sym c.in_ok-value.ensures.entry)));
    }
