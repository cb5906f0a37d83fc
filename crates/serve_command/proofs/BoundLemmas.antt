-- The numbers of a job are within their bounds.
use Rattle.std.proofs.Common.{◌≡◌, ◌≤◌, ℕ, nat_le, Bool, true, false, ◌&&◌, List, Option, Some, None, option_and_then, option_map, codes, if◌then◌else◌, refl, sym, subst, arith}
use Rattle.std.proofs.lemmas.Bool.Decides.{nat_tests}
use Rattle.std.specs.Str.{bytes_eq}
use Rattle.std.proofs.lemmas.Option.{cond_some}
use Rattle.clap.specs.Walk.{Row, Text, first_of}
use Rattle.serve_command.specs.declared.job.Job.{Job}
use Rattle.serve_command.specs.declared.job.Task.{Task}
use Rattle.serve_command.specs.declared.job.Task.TheVariants as task
use Rattle.serve_command.specs.Values.{number_in, domain_of, single_of}
use Rattle.serve_command.specs.Jobs.{batch_in, both, cert_in, faults_in, gen_in, gen_with, job_in, job_with, most_seed, serve_in, settings_in, task_with, value_in, verify_in, widening_in, IsBounded, Remembers}

then_some : {A B : Type 0} (f : A → Option B) (o : Option A) (b : B) → option_and_then f o ≡ Some b → (a : A) × (o ≡ Some a) × (f a ≡ Some b)
then_some f (Some a) b is = (a, refl, is)
then_some f None b is = cc

map_some : {A B : Type 0} (f : A → B) (o : Option A) (b : B) → option_map f o ≡ Some b → (a : A) × (o ≡ Some a) × (f a ≡ b)
map_some f (Some a) b is = (a, refl, cc)
map_some f None b is = cc

-- the first of two values, and what is made of both
first_some : {A B C : Type 0} (f : A → B → C) (a : Option A) (b : Option B) (c : C) → both f a b ≡ Some c → (x : A) × (y : B) × (a ≡ Some x) × (b ≡ Some y) × (f x y ≡ c)
first_some f a b c is =
    let outer = then_some (λ x. option_map (f x) b) a c is in
    let inner = map_some (f outer.0) b c outer.2 in
    (outer.0, inner.0, outer.1, inner.1, inner.2)

both_true : (a b c : Bool) → (a && b && c) ≡ true → (b ≡ true) × (c ≡ true)
both_true true true true is = (refl, refl)
both_true true true false is = cc
both_true true false c is = cc
both_true false b c is = cc

within : (least most : ℕ) (text : List ℕ) (n : ℕ) → number_in least most text ≡ Some n → (least ≤ n) × (n ≤ most)
unfolding number_in
within least most text n is =
    let passed = cond_some _ _ n is in
    let tests = both_true _ _ _ passed.0 in
    let low : nat_le least n ≡ true = rw (sym passed.1) tests.0 in
    let high : nat_le n most ≡ true = rw (sym passed.1) tests.1 in
    (grind (arith, nat_tests), grind (arith, nat_tests))

value_within : (least most : ℕ) (name : Text) (rows : List Row) (n : ℕ) → value_in (number_in least most) name rows ≡ Some n → (least ≤ n) × (n ≤ most)
value_within least most name rows n is =
    let read = then_some (number_in least most) (first_of name rows) n is in
    within least most read.0 n read.2

remembers_serve : (rows : List Row) (t : Task) → serve_in rows ≡ Some t → Remembers t
remembers_serve rows t is =
    let inner = first_some task.Serve (settings_in rows) (value_in (number_in 1 65536) (codes "memo") rows) t is in
    subst Remembers inner.4 (value_within 1 65536 (codes "memo") rows inner.1 inner.3).0

remembers_batch : (rows : List Row) (t : Task) → batch_in rows ≡ Some t → Remembers t
remembers_batch rows t is = let made = map_some task.Batch (settings_in rows) t is in subst Remembers made.2 tt

remembers_faults : (rows : List Row) (t : Task) → faults_in rows ≡ Some t → Remembers t
remembers_faults rows t is = let made = map_some task.Faults (settings_in rows) t is in subst Remembers made.2 tt

remembers_cert : (rows : List Row) (t : Task) → cert_in rows ≡ Some t → Remembers t
remembers_cert rows t is =
    let budget = value_in (number_in 1 10000) (codes "budget") rows in
    let outer = then_some (λ d. both (task.Cert d) (widening_in rows) budget) (value_in single_of (codes "domain") rows) t is in
    let inner = first_some (task.Cert outer.0) (widening_in rows) budget t outer.2 in
    subst Remembers inner.4 tt

remembers_verify : (rows : List Row) (t : Task) → verify_in rows ≡ Some t → Remembers t
remembers_verify rows t is =
    let inner = first_some task.Verify (value_in single_of (codes "domain") rows) (first_of (codes "CERT") rows) t is in
    subst Remembers inner.4 tt

task_bounded : (task : Option Task) (rows : List Row) (j : Job) → ((t : Task) → task ≡ Some t → Remembers t) → task_with task rows ≡ Some j → IsBounded j
task_bounded task rows j remembers is =
    let inner = first_some job_with task (first_of (codes "FILE") rows) j is in
    subst IsBounded inner.4 (remembers inner.0 inner.2)

gen_bounded : (rows : List Row) (j : Job) → gen_in rows ≡ Some j → IsBounded j
gen_bounded rows j is =
    let outer = then_some (λ d. both (gen_with d) (value_in (number_in 0 most_seed) (codes "seed") rows) (value_in (number_in 1 1000) (codes "size") rows)) (value_in domain_of (codes "domain") rows) j is in
    let inner = first_some (gen_with outer.0) (value_in (number_in 0 most_seed) (codes "seed") rows) (value_in (number_in 1 1000) (codes "size") rows) j outer.2 in
    subst IsBounded inner.4 (value_within 1 1000 (codes "size") rows inner.1 inner.3).1

chosen : (test : Bool) (a b : Option Job) (j : Job) → (a ≡ Some j → IsBounded j) → (b ≡ Some j → IsBounded j) → (if test then a else b) ≡ Some j → IsBounded j
chosen true a b j p q is = p is
chosen false a b j p q is = q is

no_job : (j : Job) → None ≡ Some j → IsBounded j
no_job j is = cc

command_bounded : (command : Text × List Row) (j : Job) → job_in command ≡ Some j → IsBounded j
unfolding job_in
command_bounded command j is =
    let rows = command.1 in
    let tells = chosen (bytes_eq command.0 (codes "faults")) (task_with (faults_in rows) rows) None j (task_bounded (faults_in rows) rows j (remembers_faults rows)) (no_job j) in
    let verifies = chosen (bytes_eq command.0 (codes "verify")) (task_with (verify_in rows) rows) _ j (task_bounded (verify_in rows) rows j (remembers_verify rows)) tells in
    let certifies = chosen (bytes_eq command.0 (codes "cert")) (task_with (cert_in rows) rows) _ j (task_bounded (cert_in rows) rows j (remembers_cert rows)) verifies in
    let generates = chosen (bytes_eq command.0 (codes "gen")) (gen_in rows) _ j (gen_bounded rows j) certifies in
    let batches = chosen (bytes_eq command.0 (codes "batch")) (task_with (batch_in rows) rows) _ j (task_bounded (batch_in rows) rows j (remembers_batch rows)) generates in
    chosen (bytes_eq command.0 (codes "serve")) (task_with (serve_in rows) rows) _ j (task_bounded (serve_in rows) rows j (remembers_serve rows)) batches is

-- the job of the command that is met
pub met_bounded : (command : Option (Text × List Row)) (j : Job) → Some j ≡ option_and_then job_in command → IsBounded j
met_bounded command j is =
    let found = then_some job_in command j (sym is) in
    command_bounded found.0 j found.2
