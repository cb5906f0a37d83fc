-- What the functions of Names owe, over the steps and names that are kept.
use Rattle.std.proofs.Common.{◌≡◌, ℕ, suc, ◌≤◌, ◌<◌, List, [], ◌∷◌, ◌++◌, length, map, Option, Some, None, slice_get, ⊎_elim, inl, inr, refl, sym, ap, ap₂, ◌∙◌, subst, arith, length-append}
use Rattle.std.specs.Option.{option_map}
use Rattle.std.proofs.lemmas.List.{length-map, map-append}
use Rattle.std.proofs.lemmas.Option.{slice_get-map, slice_get_within, same_Some}
use Rattle.cell_names.specs.declared.frame.NameFrame.{NameFrame}
use Rattle.cell_names.specs.declared.path.PathStep.{PathStep}
use Rattle.cell_names.specs.declared.path.Name.{Name}
use Rattle.cell_names.specs.Paths.{CellName, or_root, path_at, paths_of, name_in}
use Rattle.cell_names.specs.Known.{Known, known_of, IsOnce, Adds, Leads, IsKept}
use Rattle.cell_names.proofs.PathLemmas.{path-of-step, path-of-root, paths_of-length, path_at-kept, paths_of-append}
use Rattle.cell_names.proofs.OnceLemmas.{step-of-path, paths-once, names-same}
use Rattle.base_values.proofs.Lists.{get_some, get_pushed, get_front}

abbrev pub step_of : ℕ → List NameFrame → PathStep
step_of before frames = record { before = before; frames = frames }

-- what holds of all and of one thing more holds of all after it
all-added : {A : Type 0} (P : A → Type 0) (xs ys : List A) (x : A) (n : ℕ) → Adds xs ys x n → P x → ((k : ℕ) (y : A) → slice_get xs k ≡ Some y → P y) → (k : ℕ) (y : A) → slice_get ys k ≡ Some y → P y
all-added P xs ys x n added here all k y at =
    ⊎_elim
    (λ a. all k y (ap (λ v. slice_get v k) (sym a.1) ∙ at))
    (λ a. ⊎_elim (λ b. all k y b) (λ b. subst P b.1 here) (get_pushed xs x k y (ap (λ v. slice_get v k) (sym a.2) ∙ at)))
    added

map-places : {A B : Type 0} (f g : A → B) (xs : List A) → ((n : ℕ) (x : A) → slice_get xs n ≡ Some x → f x ≡ g x) → map f xs ≡ map g xs
map-places f g [] h = refl
map-places f g (x ∷ xs) h = ap₂ ◌∷◌ (h 0 x refl) (map-places f g xs (λ n y at. h (suc n) y at))

module _ (steps : List PathStep) (names : List Name) (kept : IsKept steps names) where
  abbrev pub ps : List (List NameFrame)
  ps = paths_of steps

  pub ps-once : IsOnce ps
  ps-once m n w p q = paths-once steps kept.steps_lead kept.steps_once w m n p q

  pub path-found : (s : PathStep) (n : ℕ) → slice_get steps n ≡ Some s → slice_get ps (suc n) ≡ Some s.frames
  path-found s n at = path-of-step steps n s at

  pub step-found : (s : PathStep) (f : NameFrame) (n : ℕ) → s.before < length ps → s.frames ≡ f ∷ path_at ps s.before → slice_get ps n ≡ Some s.frames → (k : ℕ) × (n ≡ suc k) × (slice_get steps k ≡ Some s)
  step-found s f n h on at =
      let a : (k : ℕ) × (x : PathStep) × (n ≡ suc k) × (slice_get steps k ≡ Some x) × (x.frames ≡ f ∷ path_at ps s.before) × (slice_get ps x.before ≡ Some (path_at ps s.before)) = step-of-path steps kept.steps_lead n f (path_at ps s.before) (at ∙ ap Some on) in
      let b : (w : List NameFrame) × (slice_get ps s.before ≡ Some w) = get_some ps s.before h in
      let v : path_at ps s.before ≡ b.0 = ap or_root b.1 in
      let before : a.1.before ≡ s.before = ps-once a.1.before s.before (path_at ps s.before) a.5 (b.1 ∙ ap Some (sym v)) in
      let same : a.1 ≡ s = ap₂ step_of before (a.4 ∙ sym on) in
      (a.0, a.2, a.3 ∙ ap Some same)

  pub name-found : (x : Name) (n : ℕ) → slice_get names n ≡ Some x → slice_get (map (name_in ps) names) n ≡ Some (name_in ps x)
  name-found x n at = slice_get-map (name_in ps) names n ∙ ap (option_map (name_in ps)) at

  name-at : (o : Option Name) (c : CellName) → option_map (name_in ps) o ≡ Some c → (y : Name) × (o ≡ Some y) × (name_in ps y ≡ c)
  name-at None c e = cc
  name-at (Some y) c e = (y, refl, same_Some (name_in ps y) c e)

  name-of : (n : ℕ) (c : CellName) → slice_get (map (name_in ps) names) n ≡ Some c → (y : Name) × (slice_get names n ≡ Some y) × (name_in ps y ≡ c)
  name-of n c at = name-at (slice_get names n) c (sym (slice_get-map (name_in ps) names n) ∙ at)

  name-within : (x : Name) (n : ℕ) → slice_get names n ≡ Some x → x.path < length ps
  name-within x n at = let low : x.path ≤ length steps = kept.names_within n x at in omega (arith, low, paths_of-length steps)

  pub name-path : (x : Name) (n : ℕ) → slice_get names n ≡ Some x → x.path < length ps
  name-path x n at = name-within x n at

  pub name-known : (x : Name) (n : ℕ) → x.path < length ps → slice_get (map (name_in ps) names) n ≡ Some (name_in ps x) → slice_get names n ≡ Some x
  name-known x n h at =
      let r : (y : Name) × (slice_get names n ≡ Some y) × (name_in ps y ≡ name_in ps x) = name-of n (name_in ps x) at in
      r.1 ∙ ap Some (names-same ps ps-once r.0 x (name-within r.0 n r.1) h r.2)

  pub names-once : IsOnce (map (name_in ps) names)
  names-once m n c p q =
      let a : (y : Name) × (slice_get names m ≡ Some y) × (name_in ps y ≡ c) = name-of m c p in
      let b : (y : Name) × (slice_get names n ≡ Some y) × (name_in ps y ≡ c) = name-of n c q in
      let same : b.0 ≡ a.0 = names-same ps ps-once b.0 a.0 (name-within b.0 n b.1) (name-within a.0 m a.1) (b.2 ∙ sym a.2) in
      kept.names_once m n a.0 a.1 (b.1 ∙ ap Some same)

  pub names-add : (x : Name) (more : List Name) (n : ℕ) → x.path < length ps → Adds names more x n → Adds (map (name_in ps) names) (map (name_in ps) more) (name_in ps x) n
  names-add x more n h added =
      ⊎_elim
      (λ a. inl (name-found x n a.0, ap (map (name_in ps)) a.1))
      (λ a. inr ((λ m e. a.0 m (name-known x m h e)), a.1 ∙ sym (length-map names (name_in ps)), ap (map (name_in ps)) a.2 ∙ map-append (name_in ps) names (x ∷ [])))
      added

  pub names-kept : (x : Name) (more : List Name) (n : ℕ) → x.path < length ps → IsOnce more → Adds names more x n → IsKept steps more
  names-kept x more n h once added =
      record {
        steps_lead = kept.steps_lead;
        steps_once = kept.steps_once;
        names_once = once;
        names_within = all-added (λ y. y.path ≤ length steps) names more x n added (omega (arith, h, paths_of-length steps)) (λ k y at. kept.names_within k y at);
      }

  -- a step leads where there are more paths after those that it leads from
  leads-more : (s y : PathStep) (k : ℕ) → k ≤ length steps → Leads ps k y → Leads (paths_of (steps ++ s ∷ [])) k y
  leads-more s y k h lead =
      let low : y.before ≤ k = lead.0 in
      let there : y.before < length ps = omega (arith, h, low, paths_of-length steps) in
      let kept : path_at ps y.before ≡ path_at (ps ++ s.frames ∷ []) y.before = path_at-kept ps (ps ++ s.frames ∷ []) (get_front ps (s.frames ∷ [])) y.before there in
      (low, lead.1, lead.2 ∙ ap (λ w. lead.1 ∷ w) (kept ∙ ap (λ v. path_at v y.before) (sym (paths_of-append steps s))))

  pub steps-kept : (s : PathStep) (f : NameFrame) (more : List PathStep) (n : ℕ) → s.before < length ps → s.frames ≡ f ∷ path_at ps s.before → IsOnce more → Adds steps more s n → IsKept more names
  steps-kept s f more n h on once added =
      let low : s.before ≤ length steps = omega (arith, h, paths_of-length steps) in
      ⊎_elim
      (λ a. subst (λ v. IsKept v names) (sym a.1) kept)
      (λ a. subst (λ v. IsOnce v → IsKept v names) (sym a.2)
      (λ o. record {
        steps_once = o;
        names_once = kept.names_once;
        names_within = (λ k y at. let l : y.path ≤ length steps = kept.names_within k y at in omega (arith, l, length-append steps (s ∷ [])));
        steps_lead = (λ k y at. ⊎_elim
            (λ b. let small : k < length steps = slice_get_within steps k y b in leads-more s y k (omega arith) (kept.steps_lead k y b))
            (λ b. let end : k ≡ length steps = b.0 in leads-more s y k (omega arith) (subst (λ z. Leads ps k z) b.1 ((omega (arith, end, low)), f, on)))
            (get_pushed steps s k y at));
      }) once)
      added

  more-paths : (s : PathStep) (f : NameFrame) (n : ℕ) → s.before < length ps → s.frames ≡ f ∷ path_at ps s.before → ((m : ℕ) → slice_get steps m ≡ Some s → ⊥) → n ≡ length steps → Adds ps (paths_of (steps ++ s ∷ [])) s.frames (suc n)
  more-paths s f n h on absent end = inr ((λ m e. let r = step-found s f m h on e in absent r.0 r.2), ap suc end ∙ sym (paths_of-length steps), paths_of-append steps s)

  pub paths-add : (s : PathStep) (f : NameFrame) (more : List PathStep) (n : ℕ) → s.before < length ps → s.frames ≡ f ∷ path_at ps s.before → Adds steps more s n → Adds ps (paths_of more) s.frames (suc n)
  paths-add s f more n h on added =
      ⊎_elim
      (λ a. inl (path-found s n a.0, ap paths_of a.1))
      (λ a. subst (λ v. Adds ps (paths_of v) s.frames (suc n)) (sym a.2) (more-paths s f n h on a.0 a.1))
      added

  pub names-same-paths : (s : PathStep) (more : List PathStep) (n : ℕ) → Adds steps more s n → map (name_in (paths_of more)) names ≡ map (name_in ps) names
  names-same-paths s more n added =
      ⊎_elim
      (λ a. ap (λ v. map (name_in (paths_of v)) names) a.1)
      (λ a. subst (λ v. map (name_in (paths_of v)) names ≡ map (name_in ps) names) (sym a.2)
      (map-places (name_in (paths_of (steps ++ s ∷ []))) (name_in ps) names
      (λ k x at. ap (λ w. let c : CellName = record { path = w; point = x.point } in c)
      (ap (λ v. path_at v x.path) (paths_of-append steps s) ∙ sym (path_at-kept ps (ps ++ s.frames ∷ []) (get_front ps (s.frames ∷ [])) x.path (name-within x k at))))))
      added

  pub root-path : path_at ps 0 ≡ []
  root-path = ap or_root (path-of-root steps)

  pub last-path : (s : PathStep) (n : ℕ) → slice_get steps n ≡ Some s → path_at ps (suc n) ≡ s.frames
  last-path s n at = ap or_root (path-found s n at)

  pub step-leads : (s : PathStep) (n : ℕ) → slice_get steps n ≡ Some s → Leads ps n s
  step-leads s n at = kept.steps_lead n s at

-- The same of what contracts see, `known`, in place of the fields.
module _ (steps : List PathStep) (names : List Name) (kept : IsKept steps names) (known : Known) (is : known_of steps names ≡ known) where
  names-are : map (name_in (paths_of steps)) names ≡ known.names
  names-are = ap (λ (k : Known). k.names) is

  along : (P : Known → Type 0) → P (known_of steps names) → P known
  along P h = subst P is h

  back : (P : Known → Type 0) → P known → P (known_of steps names)
  back P h = subst P (sym is) h

  pub known-paths-once : IsOnce known.paths
  known-paths-once = along (λ k. IsOnce k.paths) (ps-once steps names kept)

  pub known-names-once : IsOnce known.names
  known-names-once = along (λ k. IsOnce k.names) (names-once steps names kept)

  pub known-name : (x : Name) (n : ℕ) → slice_get names n ≡ Some x → slice_get known.names n ≡ Some (name_in known.paths x)
  known-name x n at = along (λ k. slice_get k.names n ≡ Some (name_in k.paths x)) (name-found steps names kept x n at)

  pub known-name-path : (x : Name) (n : ℕ) → slice_get names n ≡ Some x → x.path < length known.paths
  known-name-path x n at = along (λ k. x.path < length k.paths) (name-path steps names kept x n at)

  pub known-found : (x : Name) (n : ℕ) → x.path < length known.paths → slice_get known.names n ≡ Some (name_in known.paths x) → slice_get names n ≡ Some x
  known-found x n h at = name-known steps names kept x n (back (λ k. x.path < length k.paths) h) (back (λ k. slice_get k.names n ≡ Some (name_in k.paths x)) at)

  pub known-add : (x : Name) (more : List Name) (n : ℕ) → x.path < length known.paths → Adds names more x n → Adds known.names (map (name_in (paths_of steps)) more) (name_in known.paths x) n
  known-add x more n h added = along (λ k. Adds k.names (map (name_in (paths_of steps)) more) (name_in k.paths x) n) (names-add steps names kept x more n (back (λ k. x.path < length k.paths) h) added)

  pub known-add-kept : (x : Name) (more : List Name) (n : ℕ) → x.path < length known.paths → IsOnce more → Adds names more x n → IsKept steps more
  known-add-kept x more n h once added = names-kept steps names kept x more n (back (λ k. x.path < length k.paths) h) once added

  pub known-step-kept : (s : PathStep) (f : NameFrame) (more : List PathStep) (n : ℕ) → s.before < length known.paths → s.frames ≡ f ∷ path_at known.paths s.before → IsOnce more → Adds steps more s n → IsKept more names
  known-step-kept s f more n h on once added = steps-kept steps names kept s f more n (back (λ k. s.before < length k.paths) h) (back (λ k. s.frames ≡ f ∷ path_at k.paths s.before) on) once added

  pub known-path-add : (s : PathStep) (f : NameFrame) (more : List PathStep) (n : ℕ) → s.before < length known.paths → s.frames ≡ f ∷ path_at known.paths s.before → Adds steps more s n → Adds known.paths (paths_of more) s.frames (suc n)
  known-path-add s f more n h on added = along (λ k. Adds k.paths (paths_of more) s.frames (suc n)) (paths-add steps names kept s f more n (back (λ k. s.before < length k.paths) h) (back (λ k. s.frames ≡ f ∷ path_at k.paths s.before) on) added)

  pub known-same-names : (s : PathStep) (more : List PathStep) (n : ℕ) → Adds steps more s n → map (name_in (paths_of more)) names ≡ known.names
  known-same-names s more n added = names-same-paths steps names kept s more n added ∙ names-are

  pub known-root : path_at known.paths 0 ≡ []
  known-root = along (λ k. path_at k.paths 0 ≡ []) (root-path steps names kept)

  pub known-last : (s : PathStep) (n : ℕ) → slice_get steps n ≡ Some s → path_at known.paths (suc n) ≡ s.frames
  known-last s n at = along (λ k. path_at k.paths (suc n) ≡ s.frames) (last-path steps names kept s n at)

  pub known-leads : (s : PathStep) (n : ℕ) → slice_get steps n ≡ Some s → Leads known.paths n s
  known-leads s n at = along (λ k. Leads k.paths n s) (step-leads steps names kept s n at)

  pub known-length : length known.paths ≡ suc (length steps)
  known-length = along (λ k. length k.paths ≡ suc (length steps)) (paths_of-length steps)
