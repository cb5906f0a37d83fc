-- From what a session does with a line to what its server does.
use Rattle.std.proofs.Common.{◌≡◌, ◌∙◌, ◌≤◌, ◌+◌, ◌^◌, ℕ, suc, List, Result, Ok, Err, IfOk, OnOk, ap, arith}
use Rattle.domain_laws.specs.Operations.{Operations}
use Rattle.daig_machine.specs.Machine.{Machine}
use Rattle.request_json.specs.Replies.{reply_text}
use Rattle.serve_session.specs.Followed.{Follows}
use Rattle.serve_answers.specs.Readings.{Readings}
use Rattle.serve_answers.specs.Turns.{Outcome}
use Rattle.serve_answers.specs.Lines.{Served, line_turn, server}
use Rattle.serve_command.specs.declared.job.DomainName.{DomainName}
use Rattle.serve_output.specs.Domains.{meaning_of, AnswersAs}

module _ {S A E : Type 0} (items : A → List ℕ) (dom : Operations S) (name : DomainName) (line : List ℕ) (old new : Machine → Type 0) (same : AnswersAs name dom) where
  pub reply_by : (r : Result A E) → ((readings : Readings) (m : Machine) → old m → IfOk r (λ v. Follows (line_turn readings dom line m) new (items v))) →
      IfOk r (λ v. (s : Served) → old s.machine → items v ≡ (server (meaning_of name).operations).reply s line)
  reply_by (Ok v) follows = λ s stands. (follows s.readings s.machine stands).reply ∙ ap (λ (t : Outcome). reply_text t.reply) (same.turns s.readings line s.machine)
  reply_by (Err e) follows = tt

  pub next_by : (r : Result A E) → ((readings : Readings) (m : Machine) → old m → IfOk r (λ v. Follows (line_turn readings dom line m) new (items v))) →
      OnOk r ((s : Served) → old s.machine → new ((server (meaning_of name).operations).next s line).machine)
  next_by (Ok v) follows = λ s stands. rw (same.turns s.readings line s.machine) at (follows s.readings s.machine stands).machine
  next_by (Err e) follows = tt

pub lasts_by : {A E : Type 0} (r : Result A E) (old new : ℕ) → new ≤ old + 1 → OnOk r ((n : ℕ) → old + suc n ≤ 2 ^ 63 → new + n ≤ 2 ^ 63)
lasts_by (Ok v) old new rises = λ n lasts. omega (arith, rises, lasts)
lasts_by (Err e) old new rises = tt
