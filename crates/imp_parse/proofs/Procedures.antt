-- The readers of procedures and programs are exact.
use Rattle.std.proofs.Common.{◌≡◌, ℕ, ◌<◌, Bool, true, false, List, [], ◌∷◌, ◌++◌, length, Option, Some, None, Ok, Err, refl, sym, ap, ◌∙◌, subst, arith, append_assoc}
use Rattle.imp_lex.specs.declared.token.Mark.TheVariants as m
use Rattle.imp_lex.specs.declared.token.Word.TheVariants as word
use Rattle.imp_lex.specs.declared.token.TokenKind.{TokenKind}
use Rattle.imp_lex.specs.declared.token.TokenKind.TheVariants as k
use Rattle.imp_syntax.specs.declared.words.VariableKind as kinds
use Rattle.imp_syntax.specs.declared.words.VariableKind.TheVariants as v
use Rattle.imp_syntax.specs.declared.words.Declaration.{Declaration}
use Rattle.imp_syntax.specs.Plain.{Statement, Procedure, block_of}
use Rattle.imp_parse.specs.Language.{Language, Opens}
use Rattle.imp_parse.specs.Reader.{Unexpected, Read, fix}
use Rattle.imp_parse.specs.Tables.{kind_of}
use Rattle.imp_parse.specs.Programs.{IsDeclaration, declaration, IsDeclarations, declarations_end, declarations_more, IsParameters, no_parameters, parameters, IsOutcome, no_outcome, outcome, IsLocals, locals_end, locals_more, IsProcedure, procedure, IsProcedures, procedures_end, procedures_more, IsProgram, program}
use Rattle.imp_parse.specs.Lists.{Lists, begun, with_front}
use Rattle.imp_parse.specs.StatementReading.{begins_statement}
use Rattle.imp_parse.specs.ProgramReading.{declaration_at, outcome_at, begins_local, local_by, locals_step, locals_at, procedure_at, begins_procedure, procedures_step, procedures_at, program_at}
use Rattle.imp_parse.specs.declared.error.Stopped.{Stopped}
use Rattle.imp_parse.specs.Judged.{Fails}
use Rattle.imp_parse.proofs.Exact.{Free, Exact, Both, both}
use Rattle.imp_parse.proofs.Pack.{Layer, strictly, loosely, Pack, Strict, Loose, loose, Nothing, nothing, done, read, read_some, one, Follows, then, next, never, until, free_never, Arm, Dead, Live, Other, arm_reader, arm_lang, IsOther, live, other, choose, strict_stops, Made, give, made_of, made}
use Rattle.imp_parse.proofs.Layers.{Turn, layer_exact, alone, no_calls, alone_exact}
use Rattle.imp_parse.proofs.Commas.{IsCommas, no_more, one_more, IsListed, none, some, is_close, Commas, listed}
use Rattle.imp_parse.proofs.ListLayers.{IsList, ends, more, Listing, layer, is_live, turn, goes_on, stops_by, is_done}
use Rattle.imp_parse.proofs.Singles.{IsMark, mark, a_mark, mark_follows, refused, named, a_name, IsPicked, picked_as, picked_single}
use Rattle.imp_parse.proofs.Blocks.{StatementsIn, some_statements, statements_on, statements_first}

-- ---- a declaration

abbrev pub a_kind : {L : Layer} → Strict L kinds.VariableKind never
a_kind = one kind_of (IsPicked kind_of) (picked_single kind_of (k.Word word.Int, v.Int, refl))

abbrev declared : List ℕ → kinds.VariableKind → Declaration
declared x kind = record { name = x; kind = kind }

abbrev pub declaration_pack : Strict alone Declaration never
declaration_pack = next a_name (λ x. loose (next (a_mark m.Colon) (λ z. loose (give a_kind (λ kind. declared x kind)))))

pub declaration_to : (w : List TokenKind) (d : Declaration) → declaration_pack.lang w d → IsDeclaration w d
declaration_to w d (both {a = x} named (both {w = u} mark g)) =
    let q = made_of (λ kind. declared x kind) (IsPicked kind_of) u d g in
    subst (IsDeclaration (k.Name x ∷ k.Mark m.Colon ∷ u)) q.2 (kind_to x u q.0 q.1) where
      kind_to : (x : List ℕ) (u : List TokenKind) (kind : kinds.VariableKind) → IsPicked kind_of u kind → IsDeclaration (k.Name x ∷ k.Mark m.Colon ∷ u) (declared x kind)
      kind_to x u kind (picked_as t is) = declaration t is

pub declaration_from : (w : List TokenKind) (d : Declaration) → IsDeclaration w d → declaration_pack.lang w d
declaration_from w d (declaration {x = x} t {kind = kind} is) = both named (both mark (made (λ y. declared x y) (IsPicked kind_of) (t ∷ []) kind (picked_as t is)))

pub declaration_is : (ts : List TokenKind) → declaration_at ts ≡ declaration_pack.reader no_calls ts
unfolding declaration_at
declaration_is ts = refl

pub declaration_exact : (n : ℕ) → Exact n IsDeclaration never declaration_at
declaration_exact n = alone_exact declaration_pack IsDeclaration declaration_at declaration_to declaration_from declaration_is n

pub declaration_some : (w : List TokenKind) (d : Declaration) → IsDeclaration w d → 0 < length w
declaration_some w d (declaration t is) = omega arith

abbrev pub a_declaration : {L : Layer} → Strict L Declaration never
a_declaration = read IsDeclaration never declaration_at declaration_exact (k.Name [] ∷ k.Mark m.Colon ∷ k.Word word.Int ∷ [], declared [] v.Int, declaration (k.Word word.Int) refl) declaration_some

-- ---- parameters

pub many_to : (w : List TokenKind) (ds : List Declaration) → IsCommas IsDeclaration IsDeclarations w ds → IsDeclarations w ds
many_to w ds no_more = declarations_end
many_to w ds (one_more g h) = declarations_more g h

pub many_from : (w : List TokenKind) (ds : List Declaration) → IsDeclarations w ds → IsCommas IsDeclaration IsDeclarations w ds
many_from w ds declarations_end = no_more
many_from w ds (declarations_more g h) = one_more g h

pub all_to : (w : List TokenKind) (ds : List Declaration) → IsListed IsDeclaration IsDeclarations w ds → IsParameters w ds
all_to w ds none = no_parameters
all_to w ds (some g h) = parameters g h

pub all_from : (w : List TokenKind) (ds : List Declaration) → IsParameters w ds → IsListed IsDeclaration IsDeclarations w ds
all_from w ds no_parameters = none
all_from w ds (parameters g h) = some g h

pub declaration_front : (v : List TokenKind) (d : Declaration) → IsDeclaration v d → (rest : List TokenKind) → begun is_close (v ++ rest) ≡ false
declaration_front v d (declaration t is) rest = refl

abbrev pub declarations : Commas IsDeclaration IsDeclarations IsParameters never declaration_at
declarations = record {
  exact = declaration_exact;
  opens = (k.Name [] ∷ k.Mark m.Colon ∷ k.Word word.Int ∷ [], declared [] v.Int, declaration (k.Word word.Int) refl);
  nonempty = declaration_some;
  comma_apart = refl;
  close_apart = refl;
  front = declaration_front;
  many_to = many_to;
  many_from = many_from;
  all_to = all_to;
  all_from = all_from;
}

-- ---- the result

abbrev pub is_arrow : TokenKind → Bool
is_arrow (k.Mark m.Arrow) = true
is_arrow t = false

abbrev pub outcome_arm : TokenKind → Arm alone (Option Declaration) is_arrow
outcome_arm (k.Mark m.Arrow) = Live (until is_arrow (λ t h. refl) (loose (give a_declaration (λ d. Some d))))
outcome_arm t = Other

pub outcome_stops : (a : Option Declaration) (rest : List TokenKind) → Nothing {A = Option Declaration} None [] a → Free is_arrow rest → IsOther outcome_arm rest
outcome_stops a [] g free = tt
outcome_stops a (k.Mark m.Arrow ∷ rest) g free = absurd cc
outcome_stops a (t ∷ rest) g free = refl

abbrev pub outcome_pack : Pack alone (Option Declaration) loosely strictly is_arrow
outcome_pack = choose outcome_arm (done is_arrow None) outcome_stops ([], None, other tt nothing)

pub outcome_to : (w : List TokenKind) (o : Option Declaration) → outcome_pack.lang w o → IsOutcome w o
outcome_to w o (live {t = k.Mark m.Arrow} {w = u} g) = let q = made_of (λ d. Some d) IsDeclaration u o g in subst (IsOutcome (k.Mark m.Arrow ∷ u)) q.2 (outcome q.1)
outcome_to w o (live {t = t} g) = absurd g
outcome_to w o (other h nothing) = no_outcome

pub outcome_from : (w : List TokenKind) (o : Option Declaration) → IsOutcome w o → outcome_pack.lang w o
outcome_from w o no_outcome = other tt nothing
outcome_from w o (outcome {w = u} {d = d} g) = live {t = k.Mark m.Arrow} (made (λ y. Some y) IsDeclaration u d g)

pub outcome_is : (ts : List TokenKind) → outcome_at ts ≡ outcome_pack.reader no_calls ts
unfolding outcome_at
outcome_is [] = refl
outcome_is (k.Mark m.Arrow ∷ rest) = refl
outcome_is (t ∷ rest) = refl

pub outcome_exact : (n : ℕ) → Exact n IsOutcome is_arrow outcome_at
outcome_exact n = alone_exact outcome_pack IsOutcome outcome_at outcome_to outcome_from outcome_is n

abbrev pub an_outcome : {L : Layer} → Loose L (Option Declaration) is_arrow
an_outcome = read_some IsOutcome is_arrow outcome_at outcome_exact ([], None, no_outcome)

-- ---- local variables

pub data IsLocal : List TokenKind → Declaration → Type 0 where
  local : {w : List TokenKind} {d : Declaration} → IsDeclaration w d → IsLocal (k.Word word.Var ∷ (w ++ k.Mark m.Semicolon ∷ [])) d

abbrev pub LocalIn : Unit {0} → Language (Declaration × Unit {0})
LocalIn s w x = IsLocal w x.0

abbrev pub LocalsIn : Unit {0} → Language (List Declaration × Unit {0})
LocalsIn s w xs = IsLocals w xs.0

pub locals_to : (s : Unit {0}) (w : List TokenKind) (xs : List Declaration × Unit {0}) → IsList LocalIn LocalsIn s w xs → LocalsIn s w xs
locals_to s w xs ends = locals_end
locals_to s w xs (more (local g) h) = locals_more g h

pub locals_list : (w : List TokenKind) (ds : List Declaration) → IsLocals w ds → IsList LocalIn LocalsIn tt w (ds, tt)
locals_list w ds locals_end = ends
locals_list w ds (locals_more {d = d} {ds = ds'} g h) = more {x = (d, tt)} {xs = (ds', tt)} (local g) h

abbrev pub locals_listing : Listing Declaration (Unit {0}) begins_local never begins_local
locals_listing = record { Item = LocalIn; Many = LocalsIn; to = locals_to; from = λ s w xs g. locals_list w xs.0 g; follow = λ s w xs rest g free. free_never (w ++ rest); stops = λ t h. h }

abbrev pub locals : Layer
locals = layer begins_local never begins_local locals_listing

abbrev pub local_arm : Unit {0} → TokenKind → Arm locals (Declaration × Unit {0}) never
local_arm s (k.Word word.Var) = Live (loose (next a_declaration (λ d. loose (give (a_mark m.Semicolon) (λ z. (d, tt))))))
local_arm s t = Dead

mark_text : (w : List TokenKind) (a : Unit {0}) → IsMark m.Semicolon w a → w ≡ k.Mark m.Semicolon ∷ []
mark_text w a mark = refl

pub local_to : (s : Unit {0}) (t : TokenKind) (w : List TokenKind) (x : Declaration × Unit {0}) → arm_lang (local_arm s t) w x → LocalIn s (t ∷ w) x
local_to s (k.Word word.Var) w x (both {v = y} {w = u} {a = d} g h) =
    let q = made_of (λ z. (d, tt)) (IsMark m.Semicolon) u x h in
    subst (λ (r : List TokenKind). IsLocal (k.Word word.Var ∷ (y ++ r)) x.0) (sym (mark_text u q.0 q.1)) (subst (λ e. IsLocal (k.Word word.Var ∷ (y ++ k.Mark m.Semicolon ∷ [])) e.0) q.2 (local g))
local_to s t w x g = absurd g

pub local_from : (s : Unit {0}) (w : List TokenKind) (x : Declaration × Unit {0}) → LocalIn s w x → (t : TokenKind) × (v : List TokenKind) × (w ≡ t ∷ v) × arm_lang (local_arm s t) v x
local_from s w x (local {d = d} g) = (k.Word word.Var, _, refl, both g (made (λ z. (d, tt)) (IsMark m.Semicolon) (k.Mark m.Semicolon ∷ []) tt mark))

pub local_begins : (s : Unit {0}) (t : TokenKind) → begins_local t ≡ is_live begins_local never begins_local locals_listing (local_arm s t)
local_begins s (k.Word word.Var) = refl
local_begins s t = refl

pub local_is : (f : Lists Declaration (Unit {0})) (s : Unit {0}) (t : TokenKind) (rest : List TokenKind) → local_by f s (t ∷ rest) ≡ arm_reader (local_arm s t) f (λ ts. Err (Unexpected (length ts))) t rest
local_is f s (k.Word word.Var) rest = refl
local_is f s t rest = refl

pub locals_turn : (s : Unit {0}) → Turn locals locals_step s
unfolding locals_step
locals_turn s = turn begins_local never begins_local locals_listing local_arm local_to local_from local_begins local_by local_is s

pub locals_exact : (n : ℕ) → Exact n (LocalsIn tt) begins_local locals_at
locals_exact n = layer_exact locals locals_step locals_turn n tt

abbrev pub some_locals : {L : Layer} → Loose L (List Declaration × Unit {0}) begins_local
some_locals = read_some (LocalsIn tt) begins_local locals_at locals_exact ([], ([], tt), locals_end)

pub locals_go_on : (s : Unit {0}) (front : List Declaration) (ts : List TokenKind) (x : (Declaration × Unit {0}) × List TokenKind) (total : Read (List Declaration × Unit {0})) → begun begins_local ts ≡ true → local_by (fix locals_step) s ts ≡ Ok x
    → with_front front (fix locals_step s ts) ≡ total → with_front (front ++ x.0.0 ∷ []) (fix locals_step x.0.1 x.1) ≡ total
unfolding locals_step
locals_go_on = goes_on begins_local never begins_local locals_listing local_arm local_to local_from local_begins local_by local_is

pub locals_stop : (s : Unit {0}) (front : List Declaration) (ts : List TokenKind) (e : Stopped) (total : Read (List Declaration × Unit {0})) → begun begins_local ts ≡ true → Fails e (local_by (fix locals_step) s ts) → with_front front (fix locals_step s ts) ≡ total → Fails e total
unfolding locals_step
locals_stop = stops_by begins_local never begins_local locals_listing local_arm local_to local_from local_begins local_by local_is

pub locals_done : (s : Unit {0}) (front : List Declaration) (ts : List TokenKind) (total : Read (List Declaration × Unit {0})) → begun begins_local ts ≡ false → with_front front (fix locals_step s ts) ≡ total → total ≡ Ok ((front, s), ts)
unfolding locals_step
locals_done = is_done begins_local never begins_local locals_listing local_arm local_to local_from local_begins local_by local_is

-- ---- a procedure

abbrev pub ProcedureIn : ℕ → Language (Procedure × ℕ)
ProcedureIn n w p = IsProcedure n w p.0 p.1

abbrev pub ProceduresIn : ℕ → Language (List Procedure × ℕ)
ProceduresIn n w ps = IsProcedures n w ps.0 ps.1

local_apart : (t : TokenKind) → begins_statement t ≡ true → begins_local t ≡ false
local_apart (k.Word word.Var) e = absurd cc
local_apart t e = refl

close_free : {A : Type 0} (x : Unit {0} → A) (w : List TokenKind) (a : A) (rest : List TokenKind) → Made x (IsMark m.CloseBrace) w a → Free begins_local (w ++ rest)
close_free x w a rest (both mark h) = refl

pub body_follows : {A : Type 0} (n : ℕ) (x : List Statement × ℕ → Unit {0} → A) → Follows begins_local (Both (StatementsIn n) (λ ss. Made (x ss) (IsMark m.CloseBrace))) never
body_follows n x w a rest (both {v = y} {w = u} {a = ss} g h) free = subst (Free begins_local) (sym (append_assoc y u rest)) (statements_first begins_local local_apart g (u ++ rest) (close_free (x ss) u a rest h))

abbrev pub made_procedure : List ℕ → List Declaration → Option Declaration → List Declaration → List Statement × ℕ → Procedure × ℕ
made_procedure x ps o ls ss = (record { name = x; parameters = ps; outcome = o; locals = ls; body = block_of ss.0 }, ss.1)

module _ (L : Layer) (n : ℕ) where
  abbrev pub body_pack : List ℕ → List Declaration → Option Declaration → Loose L (Procedure × ℕ) never
  body_pack x ps o = then some_locals (λ ls. then (some_statements n) (λ ss. loose (give (a_mark m.CloseBrace) (λ z. made_procedure x ps o ls.0 ss))) (λ ss. mark_follows m.CloseBrace _ statements_on never refl)) (λ ls. body_follows n (λ ss z. made_procedure x ps o ls.0 ss))

  abbrev pub behind_pack : Strict L (Procedure × ℕ) never
  behind_pack = next a_name (λ x. loose (next (a_mark m.OpenParenthesis) (λ a. loose (next (listed declarations) (λ ps.
      then an_outcome (λ o. loose (next (a_mark m.OpenBrace) (λ b. body_pack x ps o))) (λ o. mark_follows m.OpenBrace _ is_arrow never refl))))))

brace_text : (w : List TokenKind) (a : Unit {0}) → IsMark m.CloseBrace w a → w ≡ k.Mark m.CloseBrace ∷ []
brace_text w a mark = refl

pub behind_to : (L : Layer) (n : ℕ) (w : List TokenKind) (p : Procedure × ℕ) → (behind_pack L n).lang w p → ProcedureIn n (k.Word word.Proc ∷ w) p
behind_to L n w p (both {a = x} named (both mark (both {v = u} {a = ps} g (both {v = c} {a = o} h (both mark (both {v = y} {a = ls} l (both {v = z} {w = r} {a = ss} s e))))))) =
    let q = made_of (λ a. made_procedure x ps o ls.0 ss) (IsMark m.CloseBrace) r p e in
    let front = λ (end : List TokenKind). k.Word word.Proc ∷ k.Name x ∷ k.Mark m.OpenParenthesis ∷ (u ++ (c ++ (k.Mark m.OpenBrace ∷ (y ++ (z ++ end))))) in
    subst (λ (end : List TokenKind). ProcedureIn n (front end) p) (sym (brace_text r q.0 q.1)) (subst (ProcedureIn n (front (k.Mark m.CloseBrace ∷ []))) q.2 (procedure g h l s))

pub behind_from : (L : Layer) (n j : ℕ) (w : List TokenKind) (p : Procedure) → IsProcedure n w p j → (t : TokenKind) × (v : List TokenKind) × (w ≡ t ∷ v) × (t ≡ k.Word word.Proc) × (behind_pack L n).lang v (p, j)
behind_from L n j w p (procedure {x = x} {ps = ps} {ls = ls} {o = o} {ss = ss} g h l s) =
    (k.Word word.Proc, _, refl, refl, both named (both mark (both g (both h (both mark (both {a = (ls, tt)} l (both {a = (ss, j)} s (made (λ a. made_procedure x ps o ls (ss, j)) (IsMark m.CloseBrace) (k.Mark m.CloseBrace ∷ []) tt mark))))))))

abbrev pub procedure_arm : (L : Layer) → ℕ → TokenKind → Arm L (Procedure × ℕ) never
procedure_arm L n (k.Word word.Proc) = Live (loose (behind_pack L n))
procedure_arm L n t = Dead

pub arm_to : (L : Layer) (n : ℕ) (t : TokenKind) (w : List TokenKind) (p : Procedure × ℕ) → arm_lang (procedure_arm L n t) w p → ProcedureIn n (t ∷ w) p
arm_to L n (k.Word word.Proc) w p g = behind_to L n w p g
arm_to L n t w p g = absurd g

pub arm_from : (L : Layer) (n : ℕ) (w : List TokenKind) (p : Procedure × ℕ) → ProcedureIn n w p → (t : TokenKind) × (v : List TokenKind) × (w ≡ t ∷ v) × arm_lang (procedure_arm L n t) v p
arm_from L n w p g = let f = behind_from L n p.1 w p.0 g in (f.0, f.1, f.2, subst (λ t. arm_lang (procedure_arm L n t) f.1 p) (sym f.3) f.4)

abbrev pub no_procedure : Procedure × ℕ
no_procedure = made_procedure [] [] None [] ([], 0)

abbrev pub procedure_pack : ℕ → Strict alone (Procedure × ℕ) never
procedure_pack n = choose (procedure_arm alone n) (refused no_procedure) (strict_stops (procedure_arm alone n) (refused no_procedure)) (let e = (behind_pack alone n).some in (k.Word word.Proc ∷ e.0, e.1, live {t = k.Word word.Proc} e.2))

refused_other : (n : ℕ) (w : List TokenKind) (p : Procedure × ℕ) → IsOther (procedure_arm alone n) w → Made (λ z. no_procedure) (IsMark m.Semicolon) w p → ⊥
refused_other n w p o (both mark h) = cc

pub procedure_to : (n : ℕ) (w : List TokenKind) (p : Procedure × ℕ) → (procedure_pack n).lang w p → ProcedureIn n w p
procedure_to n w p (live {t = t} {w = u} g) = arm_to alone n t u p g
procedure_to n w p (other o g) = absurd (refused_other n w p o g)

pub procedure_from : (n : ℕ) (w : List TokenKind) (p : Procedure × ℕ) → ProcedureIn n w p → (procedure_pack n).lang w p
procedure_from n w p g = let f = arm_from alone n w p g in subst (λ (q : List TokenKind). (procedure_pack n).lang q p) (sym f.2) (live {t = f.0} f.3)

pub procedure_is : (n : ℕ) (ts : List TokenKind) → procedure_at n ts ≡ (procedure_pack n).reader no_calls ts
unfolding procedure_at
procedure_is n [] = refl
procedure_is n (k.Word word.Proc ∷ rest) = refl
procedure_is n (t ∷ rest) = refl

pub procedure_exact : (n j : ℕ) → Exact j (ProcedureIn n) never (procedure_at n)
procedure_exact n j = alone_exact (procedure_pack n) (ProcedureIn n) (procedure_at n) (procedure_to n) (procedure_from n) (procedure_is n) j

pub procedure_opens : (n : ℕ) → Opens (ProcedureIn n) []
procedure_opens n = let e = (procedure_pack n).some in (e.0, e.1, procedure_to n e.0 e.1 e.2)

pub procedure_some : (n : ℕ) (w : List TokenKind) (p : Procedure × ℕ) → ProcedureIn n w p → 0 < length w
procedure_some n w p g = let k = procedure_pack n in omega (arith, k.grows 0 w p (procedure_from n w p g))

abbrev pub a_procedure : {L : Layer} → ℕ → Strict L (Procedure × ℕ) never
a_procedure n = read (ProcedureIn n) never (procedure_at n) (procedure_exact n) (procedure_opens n) (procedure_some n)

-- ---- procedures

pub procedures_to : (n : ℕ) (w : List TokenKind) (ps : List Procedure × ℕ) → IsList ProcedureIn ProceduresIn n w ps → ProceduresIn n w ps
procedures_to n w ps ends = procedures_end
procedures_to n w ps (more g h) = procedures_more g h

pub procedures_from : (n j : ℕ) (w : List TokenKind) (ps : List Procedure) → IsProcedures n w ps j → IsList ProcedureIn ProceduresIn n w (ps, j)
procedures_from n j w ps procedures_end = ends
procedures_from n j w ps (procedures_more {i = i} {p = p} {ps = ps'} g h) = more {x = (p, i)} {xs = (ps', j)} g h

abbrev pub procedures_listing : Listing Procedure ℕ begins_procedure never begins_procedure
procedures_listing = record { Item = ProcedureIn; Many = ProceduresIn; to = procedures_to; from = λ n w ps g. procedures_from n ps.1 w ps.0 g; follow = λ n w ps rest g free. free_never (w ++ rest); stops = λ t h. h }

abbrev pub procedures : Layer
procedures = layer begins_procedure never begins_procedure procedures_listing

pub procedure_begins : (n : ℕ) (t : TokenKind) → begins_procedure t ≡ is_live begins_procedure never begins_procedure procedures_listing (procedure_arm procedures n t)
procedure_begins n (k.Word word.Proc) = refl
procedure_begins n t = refl

abbrev pub procedure_by : Lists Procedure ℕ → ℕ → List TokenKind → Read (Procedure × ℕ)
procedure_by f n ts = procedure_at n ts

pub procedure_item : (f : Lists Procedure ℕ) (n : ℕ) (t : TokenKind) (rest : List TokenKind) → procedure_by f n (t ∷ rest) ≡ arm_reader (procedure_arm procedures n t) f (λ ts. Err (Unexpected (length ts))) t rest
unfolding procedure_at
procedure_item f n (k.Word word.Proc) rest = refl
procedure_item f n t rest = refl

pub procedures_turn : (n : ℕ) → Turn procedures procedures_step n
unfolding procedures_step
procedures_turn n = turn begins_procedure never begins_procedure procedures_listing (procedure_arm procedures) (arm_to procedures) (arm_from procedures) procedure_begins procedure_by procedure_item n

pub procedures_exact : (n j : ℕ) → Exact j (ProceduresIn n) begins_procedure (procedures_at n)
procedures_exact n j = layer_exact procedures procedures_step procedures_turn j n

abbrev pub some_procedures : {L : Layer} → ℕ → Loose L (List Procedure × ℕ) begins_procedure
some_procedures n = read_some (ProceduresIn n) begins_procedure (procedures_at n) (procedures_exact n) ([], ([], n), procedures_end)

pub procedures_go_on : (n : ℕ) (front : List Procedure) (ts : List TokenKind) (x : (Procedure × ℕ) × List TokenKind) (total : Read (List Procedure × ℕ)) → begun begins_procedure ts ≡ true → procedure_at n ts ≡ Ok x
    → with_front front (fix procedures_step n ts) ≡ total → with_front (front ++ x.0.0 ∷ []) (fix procedures_step x.0.1 x.1) ≡ total
unfolding procedures_step
procedures_go_on = goes_on begins_procedure never begins_procedure procedures_listing (procedure_arm procedures) (arm_to procedures) (arm_from procedures) procedure_begins procedure_by procedure_item

pub procedures_stop : (n : ℕ) (front : List Procedure) (ts : List TokenKind) (e : Stopped) (total : Read (List Procedure × ℕ)) → begun begins_procedure ts ≡ true → Fails e (procedure_at n ts) → with_front front (fix procedures_step n ts) ≡ total → Fails e total
unfolding procedures_step
procedures_stop = stops_by begins_procedure never begins_procedure procedures_listing (procedure_arm procedures) (arm_to procedures) (arm_from procedures) procedure_begins procedure_by procedure_item

pub procedures_done : (n : ℕ) (front : List Procedure) (ts : List TokenKind) (total : Read (List Procedure × ℕ)) → begun begins_procedure ts ≡ false → with_front front (fix procedures_step n ts) ≡ total → total ≡ Ok ((front, n), ts)
unfolding procedures_step
procedures_done = is_done begins_procedure never begins_procedure procedures_listing (procedure_arm procedures) (arm_to procedures) (arm_from procedures) procedure_begins procedure_by procedure_item

-- ---- a program

abbrev pub in_front : Procedure → List Procedure × ℕ → List Procedure × ℕ
in_front p ps = (p ∷ ps.0, ps.1)

abbrev pub program_pack : Strict alone (List Procedure) begins_procedure
program_pack = next (a_procedure 1) (λ p. give (give (some_procedures p.1) (in_front p.0)) (λ ps. ps.0))

pub program_to : (w : List TokenKind) (ps : List Procedure) → program_pack.lang w ps → IsProgram w ps
program_to w ps (both {v = y} {w = u} {a = p} g h) =
    let q = made_of (λ (qs : List Procedure × ℕ). qs.0) (Made (in_front p.0) (ProceduresIn p.1)) u ps h in
    let r = made_of (in_front p.0) (ProceduresIn p.1) u q.0 q.1 in
    subst (IsProgram (y ++ u)) (ap (λ z. z.0) r.2 ∙ q.2) (program g r.1)

pub program_from : (w : List TokenKind) (ps : List Procedure) → IsProgram w ps → program_pack.lang w ps
program_from w ps (program {i = i} {j = j} {w = u} {p = p} {ps = qs} g h) =
    both {a = (p, i)} g (made (λ (y : List Procedure × ℕ). y.0) (Made (in_front p) (ProceduresIn i)) u (p ∷ qs, j) (made (in_front p) (ProceduresIn i) u (qs, j) h))

pub program_is : (ts : List TokenKind) → program_at ts ≡ program_pack.reader no_calls ts
unfolding program_at
program_is ts = refl

pub program_exact : (n : ℕ) → Exact n IsProgram begins_procedure program_at
program_exact n = alone_exact program_pack IsProgram program_at program_to program_from program_is n
