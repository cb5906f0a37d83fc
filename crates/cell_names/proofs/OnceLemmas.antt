-- Paths and names have one number.
use Rattle.std.proofs.Common.{◌≡◌, ℕ, zero, suc, ◌≤◌, ◌<◌, List, [], ◌∷◌, length, Bool, true, Some, slice_get, refl, sym, ap, ap₂, ◌∙◌, arith}
use Rattle.std.proofs.lemmas.Option.{slice_get_within}
use Rattle.state_table.specs.Numbers as table
use Rattle.cell_names.specs.declared.frame.NameFrame.{NameFrame}
use Rattle.cell_names.specs.declared.frame.Point.{Point}
use Rattle.cell_names.specs.declared.path.PathStep.{PathStep}
use Rattle.cell_names.specs.declared.path.Name.{Name}
use Rattle.cell_names.specs.Paths.{CellName, or_root, path_at, paths_of, name_in}
use Rattle.cell_names.specs.Known.{IsOnce, Leads, StepsLead}
use Rattle.cell_names.proofs.PathLemmas.{path-of-step, path-of-root, paths_of-length}
use Rattle.base_values.proofs.Lists.{get_some}

-- equal values have one place where they are told apart
pub once_told : {A : Type 0} (eq : A → A → Bool) → (xs : List A) → table.AreOnce eq xs → ((x : A) → eq x x ≡ true) → IsOnce xs
once_told eq xs once self m n x p q = once m n x x p q (self x)

-- a path that is not empty is that of a step
pub step-of-path : (steps : List PathStep) → StepsLead steps → (n : ℕ) (f : NameFrame) (w : List NameFrame) → slice_get (paths_of steps) n ≡ Some (f ∷ w) → (k : ℕ) × (s : PathStep) × (n ≡ suc k) × (slice_get steps k ≡ Some s) × (s.frames ≡ f ∷ w) × (slice_get (paths_of steps) s.before ≡ Some w)
step-of-path steps good zero f w at = let r : slice_get (paths_of steps) 0 ≡ Some [] = path-of-root steps in cc
step-of-path steps good (suc k) f w at =
    let small : suc k < length (paths_of steps) = slice_get_within (paths_of steps) (suc k) (f ∷ w) at in
    let less : k < length steps = omega (arith, small, paths_of-length steps) in
    let r : (s : PathStep) × (slice_get steps k ≡ Some s) = get_some steps k less in
    let s : PathStep = r.0 in
    let is : slice_get (paths_of steps) (suc k) ≡ Some s.frames = path-of-step steps k s r.1 in
    let same : s.frames ≡ f ∷ w = cc in
    let lead : Leads (paths_of steps) k s = good k s r.1 in
    let low : s.before ≤ k = lead.0 in
    let on : s.frames ≡ lead.1 ∷ path_at (paths_of steps) s.before = lead.2 in
    let rest : path_at (paths_of steps) s.before ≡ w = cc in
    let there : (v : List NameFrame) × (slice_get (paths_of steps) s.before ≡ Some v) = get_some (paths_of steps) s.before (omega (arith, low, small)) in
    let v : path_at (paths_of steps) s.before ≡ there.0 = ap or_root there.1 in
    (k, s, refl, r.1, same, there.1 ∙ ap Some (sym v ∙ rest))

-- the empty path has the number 0 alone
root-once : (steps : List PathStep) → StepsLead steps → (n : ℕ) → slice_get (paths_of steps) n ≡ Some [] → n ≡ 0
root-once steps good zero at = refl
root-once steps good (suc k) at =
    let small : suc k < length (paths_of steps) = slice_get_within (paths_of steps) (suc k) [] at in
    let r : (s : PathStep) × (slice_get steps k ≡ Some s) = get_some steps k (omega (arith, small, paths_of-length steps)) in
    let is : slice_get (paths_of steps) (suc k) ≡ Some r.0.frames = path-of-step steps k r.0 r.1 in
    let lead : Leads (paths_of steps) k r.0 = good k r.0 r.1 in
    let on : r.0.frames ≡ lead.1 ∷ path_at (paths_of steps) r.0.before = lead.2 in
    absurd (cc)

-- a path has one number
pub paths-once : (steps : List PathStep) → StepsLead steps → IsOnce steps → (w : List NameFrame) (m n : ℕ) → slice_get (paths_of steps) m ≡ Some w → slice_get (paths_of steps) n ≡ Some w → m ≡ n
paths-once steps good once [] m n p q = root-once steps good m p ∙ sym (root-once steps good n q)
paths-once steps good once (f ∷ w) m n p q =
    let a : (k : ℕ) × (s : PathStep) × (m ≡ suc k) × (slice_get steps k ≡ Some s) × (s.frames ≡ f ∷ w) × (slice_get (paths_of steps) s.before ≡ Some w) = step-of-path steps good m f w p in
    let b : (k : ℕ) × (s : PathStep) × (n ≡ suc k) × (slice_get steps k ≡ Some s) × (s.frames ≡ f ∷ w) × (slice_get (paths_of steps) s.before ≡ Some w) = step-of-path steps good n f w q in
    let before : a.1.before ≡ b.1.before = paths-once steps good once w a.1.before b.1.before a.5 b.5 in
    let make : ℕ → List NameFrame → PathStep = λ n fs. record { before = n; frames = fs } in
    let same : a.1 ≡ b.1 = ap₂ make before (a.4 ∙ sym b.4) in
    let k : a.0 ≡ b.0 = once a.0 b.0 a.1 a.3 (b.3 ∙ ap Some (sym same)) in
    a.2 ∙ ap suc k ∙ sym b.2

-- where paths stand once, a name is told by what it names
pub names-same : (paths : List (List NameFrame)) → IsOnce paths → (x y : Name) → x.path < length paths → y.path < length paths → name_in paths x ≡ name_in paths y → x ≡ y
names-same paths once x y p q e =
    let path : path_at paths x.path ≡ path_at paths y.path = ap (λ (c : CellName). c.path) e in
    let point : x.point ≡ y.point = ap (λ (c : CellName). c.point) e in
    let a : (w : List NameFrame) × (slice_get paths x.path ≡ Some w) = get_some paths x.path p in
    let b : (w : List NameFrame) × (slice_get paths y.path ≡ Some w) = get_some paths y.path q in
    let u : path_at paths x.path ≡ a.0 = ap or_root a.1 in
    let v : path_at paths y.path ≡ b.0 = ap or_root b.1 in
    let w : a.0 ≡ b.0 = sym u ∙ path ∙ v in
    let n : x.path ≡ y.path = once x.path y.path a.0 a.1 (b.1 ∙ ap Some (sym w)) in
    let make : ℕ → Point → Name = λ k f. record { path = k; point = f } in
    ap₂ make n point
