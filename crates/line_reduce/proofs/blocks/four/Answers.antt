use Rattle.std.proofs.Common.{◌≡◌, ◌+◌, ◌*◌, ℕ, map, arith, refl, ◌∙◌, ap, get_or}
use Rattle.std.proofs.lemmas.List.{get_or_read}
use Rattle.field_ext.specs.Field.{F, K, zero_k, add_k, mul_k, of, embed_k}
use Rattle.mle_table.proofs.api.Written.{embedded_read}
use Rattle.line_reduce.proofs.BlockSums.{four_products, four_elements}
use Rattle.line_reduce.proofs.blocks.four.Goals as goal

pub returns : goal.returns
returns c =
    let values = map embed_k c.args.values.now in
    let weights = c.args.weights.now in
    let at = c.args.at in
    let from = c.args.from in
    let n = c.args.n in
    let p0 : c.args.at ≡ c.args.at + 0 = omega arith in
    let e0 : K = embed_k c.index-values-at.result in
    let a0 : e0 ≡ get_or (map embed_k c.args.values.now) (c.args.at + 0) zero_k = embedded_read c.args.values.now (c.args.at) c.index-values-at.result e0 (omega arith) c.index-values-at.is refl ∙ ap (λ (x : ℕ). get_or values x zero_k) p0 in
    let e1 : K = embed_k c.index-values-at-2.result in
    let a1 : e1 ≡ get_or (map embed_k c.args.values.now) (c.args.at + 1) zero_k = embedded_read c.args.values.now (c.args.at + 1) c.index-values-at-2.result e1 (omega arith) c.index-values-at-2.is refl in
    let e2 : K = embed_k c.index-values-at-3.result in
    let a2 : e2 ≡ get_or (map embed_k c.args.values.now) (c.args.at + 2) zero_k = embedded_read c.args.values.now (c.args.at + 2) c.index-values-at-3.result e2 (omega arith) c.index-values-at-3.is refl in
    let e3 : K = embed_k c.index-values-at-4.result in
    let a3 : e3 ≡ get_or (map embed_k c.args.values.now) (c.args.at + 3) zero_k = embedded_read c.args.values.now (c.args.at + 3) c.index-values-at-4.result e3 (omega arith) c.index-values-at-4.is refl in
    let q0 : c.args.from ≡ c.args.from + 0 * c.args.n = omega arith in
    let w0 : c.index-weights-from.result ≡ get_or c.args.weights.now (c.args.from + 0 * c.args.n) zero_k = get_or_read weights (c.args.from) c.index-weights-from.result (omega arith) c.index-weights-from.is zero_k ∙ ap (λ (x : ℕ). get_or weights x zero_k) q0 in
    let q1 : c.args.from + c.args.n ≡ c.args.from + 1 * c.args.n = omega arith in
    let w1 : c.index-weights-from-2.result ≡ get_or c.args.weights.now (c.args.from + 1 * c.args.n) zero_k = get_or_read weights (c.args.from + c.args.n) c.index-weights-from-2.result (omega arith) c.index-weights-from-2.is zero_k ∙ ap (λ (x : ℕ). get_or weights x zero_k) q1 in
    let w2 : c.index-weights-from-3.result ≡ get_or c.args.weights.now (c.args.from + 2 * c.args.n) zero_k = get_or_read weights (c.args.from + 2 * c.args.n) c.index-weights-from-3.result (omega arith) c.index-weights-from-3.is zero_k in
    let w3 : c.index-weights-from-4.result ≡ get_or c.args.weights.now (c.args.from + 3 * c.args.n) zero_k = get_or_read weights (c.args.from + 3 * c.args.n) c.index-weights-from-4.result (omega arith) c.index-weights-from-4.is zero_k in
    let v0 : c.value-a0.result ≡ c.index-values-at.result.value = c.value-a0.ensures in
    let v1 : c.value-a1.result ≡ c.index-values-at-2.result.value = c.value-a1.ensures in
    let v2 : c.value-a2.result ≡ c.index-values-at-3.result.value = c.value-a2.ensures in
    let v3 : c.value-a3.result ≡ c.index-values-at-4.result.value = c.value-a3.ensures in
    let r0 : c.value.result ≡ c.index-weights-from.result.re.value = c.value.ensures ∙ ap (λ (x : F). x.value) c.re.ensures in
    let i0 : c.value-2.result ≡ c.index-weights-from.result.im.value = c.value-2.ensures ∙ ap (λ (x : F). x.value) c.im.ensures in
    let r1 : c.value-3.result ≡ c.index-weights-from-2.result.re.value = c.value-3.ensures ∙ ap (λ (x : F). x.value) c.re-2.ensures in
    let i1 : c.value-4.result ≡ c.index-weights-from-2.result.im.value = c.value-4.ensures ∙ ap (λ (x : F). x.value) c.im-2.ensures in
    let r2 : c.value-5.result ≡ c.index-weights-from-3.result.re.value = c.value-5.ensures ∙ ap (λ (x : F). x.value) c.re-3.ensures in
    let i2 : c.value-6.result ≡ c.index-weights-from-3.result.im.value = c.value-6.ensures ∙ ap (λ (x : F). x.value) c.im-3.ensures in
    let r3 : c.value-7.result ≡ c.index-weights-from-4.result.re.value = c.value-7.ensures ∙ ap (λ (x : F). x.value) c.re-4.ensures in
    let i3 : c.value-8.result ≡ c.index-weights-from-4.result.im.value = c.value-8.ensures ∙ ap (λ (x : F). x.value) c.im-4.ensures in
    c.of.ensures
    ∙ four_elements e0 e1 e2 e3 c.index-weights-from.result c.index-weights-from-2.result c.index-weights-from-3.result c.index-weights-from-4.result c.reduce.result c.reduce-2.result
    refl
    refl
    refl
    refl
    (c.reduce.ensures ∙ (λ i. of (v0 i * r0 i + v1 i * r1 i + v2 i * r2 i + v3 i * r3 i)) ∙ four_products c.index-values-at.result c.index-values-at-2.result c.index-values-at-3.result c.index-values-at-4.result c.index-weights-from.result.re c.index-weights-from-2.result.re c.index-weights-from-3.result.re c.index-weights-from-4.result.re)
    (c.reduce-2.ensures ∙ (λ i. of (v0 i * i0 i + v1 i * i1 i + v2 i * i2 i + v3 i * i3 i)) ∙ four_products c.index-values-at.result c.index-values-at-2.result c.index-values-at-3.result c.index-values-at-4.result c.index-weights-from.result.im c.index-weights-from-2.result.im c.index-weights-from-3.result.im c.index-weights-from-4.result.im)
    ∙ (λ i. add_k (add_k (add_k (add_k zero_k (mul_k (a0 i) (w0 i))) (mul_k (a1 i) (w1 i))) (mul_k (a2 i) (w2 i))) (mul_k (a3 i) (w3 i)))
