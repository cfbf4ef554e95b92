use Rattle.std.proofs.Common.{◌≡◌, ℕ, Bool, cond, List, [], ◌∷◌, map, length, set, replicate, sym, refl, ap, ◌∙◌, ap₂}
use Rattle.std.proofs.lemmas.Bool.{eq-eqb, ne_eqb}
use Rattle.algebra.specs.Linear.{basis, shear_row}
use Rattle.algebra.specs.Meaning.{Meaning, on_bytes}
use Rattle.blocks.specs.Elimination.{lead_step}
use Rattle.blocks.proofs.Coefficients.{zeros_are}
use Rattle.blocks.proofs.elimination_value.Elimination.lead.Goals as goal

-- with the pivot in its place
rests : (M : Meaning) (n place k : ℕ) (rows : List (List ℕ)) → place ≡ k → rows ≡ map (lead_step M n place k) rows
rests M n place k rows e =
    same rows ∙ ap (λ (b : Bool). map (λ (row : List ℕ). cond b row (shear_row (on_bytes M) M.one place (basis (on_bytes M) n k) row)) rows) (sym (eq-eqb place k e))
  where
    same : (rows : List (List ℕ)) → rows ≡ map (λ (row : List ℕ). row) rows
    same [] = refl
    same (row ∷ rows) = ap (λ (t : List (List ℕ)). row ∷ t) (same rows)

-- and elsewhere
moves : (M : Meaning) (n place k one : ℕ) (step : List ℕ) (rows new : List (List ℕ)) → (place ≡ k → ⊥) → one ≡ M.one → step ≡ set (replicate n 0) k one
    → new ≡ map (shear_row (on_bytes M) one place step) rows → new ≡ map (lead_step M n place k) rows
unfolding basis on_bytes
moves M n place k one step rows new other one_is step_is e =
    e ∙ ap₂ (λ (f : ℕ) (q : List ℕ). map (shear_row (on_bytes M) f place q) rows) one_is (step_is ∙ ap₂ (λ (l : List ℕ) (x : ℕ). set l k x) (zeros_are M n) one_is)
    ∙ ap (λ (b : Bool). map (λ (row : List ℕ). cond b row (shear_row (on_bytes M) M.one place (basis (on_bytes M) n k) row)) rows) (sym (ne_eqb place k other))

pub returns-then-place-k : goal.returns-then-place-k
returns-then-place-k g c =
    let M = g.F.Field.meaning c.args.field.now in
    let n = length c.args.self.now.work in
    record { work = rests M n c.args.place c.args.k c.args.self.now.work c.if-place-k.true; account = rests M n c.args.place c.args.k c.args.self.now.account c.if-place-k.true }

pub returns : goal.returns
returns g c =
    let M = g.F.Field.meaning c.args.field.now in
    let n = length c.args.self.now.work in
    let moved = moves M n c.args.place c.args.k c.one-one.result c.with-step.result in
    let step = c.with-step.ensures ∙ ap (λ l. set l c.args.k c.one-one.result) (c.zeros.ensures ∙ ap (λ m. replicate m 0) c.size.ensures.value) in
    record {
      work = moved c.args.self.now.work c.change.new.self.work c.if-place-k.false c.one-one.ensures step c.change.ensures.work;
      account = moved c.args.self.now.account c.change.new.self.account c.if-place-k.false c.one-one.ensures step c.change.ensures.account;
    }
