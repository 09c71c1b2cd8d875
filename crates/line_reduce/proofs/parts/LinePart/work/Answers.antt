use Rattle.std.proofs.Common.{◌≡◌, ◌≤◌, ◌+◌, ◌*◌, ℕ, List, length, map, take, drop, Bool, false, cond, nat_lt, arith, sym, ap, subst, ◌∙◌}
use Rattle.std.proofs.lemmas.Bool.Decides.{nat_tests}
use Rattle.std.proofs.lemmas.List.{length-map, take-map, drop-map}
use Rattle.field_ext.specs.Field.{F, K, k_ops, embed_k}
use Rattle.field_ext.specs.Polynomial.{coefficients}
use Rattle.gkr_layers.specs.Sumcheck.{line_polynomial}
use Rattle.wiring_poly.proofs.api.Identity.{written_back}
use Rattle.line_reduce.specs.Parts.{PartOfLine, worked_part, part_line, values_of}
use Rattle.line_reduce.proofs.parts.LinePart.work.Goals as goal

-- what the line of a part's values is, in the word of the definition
line_is : (values block b c b' c' row : List K) (k : ℕ) → length b ≡ 11 → block ≡ take 2048 (drop (k * 2048) values) → b ≡ b' → c ≡ c' →
    take (length b + 1) row ≡ coefficients k_ops (length b + 1) (line_polynomial k_ops block b c) → take 12 row ≡ part_line (values_of values k) b' c'
unfolding part_line values_of
line_is values block b c b' c' row k long is hb hc line =
    subst (λ (n : ℕ). take (n + 1) row ≡ coefficients k_ops (n + 1) (line_polynomial k_ops block b c)) long line
    ∙ (λ i. coefficients k_ops 12 (line_polynomial k_ops (is i) (hb i) (hc i)))

range-map : (numbers : List F) (from : ℕ) → map embed_k (take 2048 (drop from numbers)) ≡ take 2048 (drop from (map embed_k numbers))
range-map numbers from = sym (ap (take 2048) (drop-map embed_k from numbers) ∙ take-map embed_k 2048 (drop from numbers))

-- a part that the table has
worked : (values : List K) (k : ℕ) (p : PartOfLine) (line : List K) → k * 2048 + 2048 ≤ length values →
    line ≡ part_line (values_of values k) p.b p.c → record p { line = line } ≡ worked_part values k p
worked values k p line has is =
    let there : nat_lt (length values) (k * 2048 + 2048) ≡ false = grind (arith, nat_tests) in
    (λ i. record p { line = is i })
    ∙ sym (ap (λ (t : Bool). cond t p (record p { line = part_line (values_of values k) p.b p.c })) there)

pub returns : goal.returns
returns c =
    let numbers = c.args.values.now in
    let values = map embed_k numbers in
    let new = c.fill_line.new.rows in
    let rows = c.self.inside.rows in
    let whole = written_back rows.items new rows.len (c.fill_line.auto.rows ∙ c.deref_mut-2.ensures.len) in
    let block = ap (map embed_k) (c.split_at-2.ensures.front ∙ ap (take 2048) c.split_at.ensures.back) ∙ range-map numbers (c.args.k * 2048) in
    let line = line_is values (map embed_k c.split_at-2.result.0.now) c.deref.result.now c.deref-2.result.now c.self.inside.b.items c.self.inside.c.items new c.args.k
    (c.deref.ensures.len ∙ c.self.invariant.0) block c.deref.ensures.value c.deref-2.ensures.value c.fill_line.ensures in
    let before : PartOfLine = record { b = c.self.inside.b.items; c = c.self.inside.c.items; line = take 12 rows.items } in
    worked values c.args.k before _ (let long = length-map numbers embed_k in omega (arith, long, c.if-values-from.false)) (ap (take 12) whole ∙ line)
    ∙ ap (worked_part values c.args.k) c.self.view_is
