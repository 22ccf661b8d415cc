-- Two texts formed and compared. Assumes nothing.
use Rattle.std.specs.Prelude.{Ok, Err, Result, Decides}
use Prim.Native.Nat.{ℕ}
use mathlib.Core.Bool.{Bool, true, false, true≢false, false≢true}
use Rattle.block.specs.Reading.{Reading}
use Rattle.demands.proofs.AgainLaws.{left-whole}
use Rattle.demands.proofs.FormedLaws.{formed-kept, form-left, form-refused, form-case, kept-room}
use Rattle.demands.specs.Compare.{Tells, Formed, HasRoom, FormRefused, FormCase, RefusedWith, ToldApart, FormsCompared}
use Rattle.lexer.specs.Refusals.{number}
use Rattle.lexer.specs.declared.Place.{Place}
use Rattle.lexer.specs.declared.refusal.Refusal.{Refusal}
use Rattle.record.proofs.CallLaws.{length-refused, same_length}
use Rattle.record.proofs.Demands.{forms-tell-texts-apart}
use Rattle.record.specs.Calls.{read_leaves}
use Rattle.record.specs.Demands.{Left}
use Rattle.record.specs.Form.{form}
use Rattle.lexer.specs.declared.Fault.{Fault}
use Rattle.lexer.specs.Refusals.{fault}
use lib.ListN.{length, take}
use mathlib.Core.List.{List}
use mathlib.Core.Logic.{◌↔◌}
use mathlib.Core.Path.{◌≡◌, refl, sym, ap, ◌∙◌, subst₂}

-- What an answer says, if it is one.
said : Result Bool (Fault Place) → Bool
said (Ok b) = b
said (Err f) = false

-- A test tells what it decides.
pub told-by : {P : Type 0} (b : Bool) → Decides b P → Tells P (Ok b)
unfolding said
told-by true d =
    record {
      same = (λ e. d.0 refl, λ p. refl);
      different = (λ e p. true≢false (ap said e), λ never. absurd (never (d.0 refl)));
    }
told-by false d =
    record {
      same = (λ e. absurd (false≢true (ap said e)), λ p. absurd (false≢true (d.1 p)));
      different = (λ e p. false≢true (d.1 p), λ never. refl);
    }

-- What tells one thing tells another that holds exactly when it does.
tells-also : {P Q : Type 0} → (P ↔ Q) → (c : Result Bool (Fault Place)) → Tells P c → Tells Q c
tells-also pq c t =
    record {
      same = (λ e. pq.0 (t.same.0 e), λ q. t.same.1 (pq.1 q));
      different = (λ e q. t.different.0 e (pq.1 q), λ never. t.different.1 (λ p. never (pq.0 p)));
    }

-- One refusal is another where the answers are equal.
same-compared : {m n : Refusal} {p q : Place} → ◌≡◌ {A = Result ℕ (Fault Place)} (Err (fault m p)) (Err (fault n q)) → ◌≡◌ {A = Result Bool (Fault Place)} (Err (fault m p)) (Err (fault n q))
same-compared {m} {n} {p} {q} e =
    let f : fault m p ≡ fault n q = cc in
    cc

-- A refusal is one that a case says.
refused-with : {m : Refusal} {p q : Place} {n : ℕ} {a : Result ℕ (Fault Place)} → a ≡ Err (fault m p) → (why : Refusal) × (number why ≡ n) × (a ≡ Err (fault why q)) → RefusedWith n q (Err (fault m p))
refused-with e x = record { why = x.0; numbered = x.1; answer = same-compared (sym e ∙ x.2) }

module _ (t u work mid kept kept_mid first first_after second : List ℕ) (a : Result ℕ (Fault Place)) (f : Formed t work mid kept kept_mid first first_after a) where
  decided : FormCase t (length work) (length kept) (length first) × FormCase u (length work) (length kept) (length second)
  decided = (form-case t (length work) (length kept) (length first), form-case u (length work) (length kept) (length second))

  first-left : (r : Reading) → HasRoom t (length work) (length kept) (length first) r → Left (form r) first a first_after
  first-left r h = form-left t work mid kept kept_mid first first_after a f r h

  first-why : (n : ℕ) (p : Place) → FormRefused t (length work) (length kept) (length first) n p → (why : Refusal) × (number why ≡ n) × (a ≡ Err (fault why p))
  first-why n p h = form-refused t work mid kept kept_mid first first_after a f n p h

  -- A call for the first text is refused: the second is not looked at.
  pub first-refused : (n : Refusal) (p : Place) → a ≡ Err (fault n p) → FormsCompared t u work mid kept kept_mid first first_after second second (Err (fault n p))
  first-refused n p e =
      let not-formed : (r : Reading) → HasRoom t (length work) (length kept) (length first) r → ⊥ = λ r h. length-refused (sym (first-left r h).counted ∙ e) in
      record {
        decided = decided;
        told = λ r s h k. absurd (not-formed r h);
        first_refused = λ m q h. (refused-with e (first-why m q h), (formed-kept t work mid kept kept_mid first first_after a f).refused n p e, refl);
        second_refused = λ r m q h k. absurd (not-formed r h);
        first_kept = λ m q h. f.stored;
        both_kept = λ r h. absurd (not-formed r h);
        size = f.size;
      }

  module _ (n : ℕ) (e : a ≡ Ok n) (work_after kept_after second_after : List ℕ) (b : Result ℕ (Fault Place)) (g : Formed u mid work_after kept_mid kept_after second second_after b) where
    first_taken : (m : ℕ) (q : Place) → FormRefused t (length work) (length kept) (length first) m q → ⊥
    first_taken m q h = length-refused (sym e ∙ (first-why m q h).2)

    -- What is stored of the second text stands over what was stored of the first.
    stored : kept_after ≡ read_leaves u (length work) (read_leaves t (length work) kept)
    stored = g.stored ∙ ap (λ n. read_leaves u n kept_mid) f.size ∙ ap (read_leaves u (length work)) f.stored

    -- The room for the second text is that which there was at first.
    second-left : (s : Reading) → HasRoom u (length work) (length kept) (length second) s → Left (form s) second b second_after
    second-left s h =
        form-left u mid work_after kept_mid kept_after second second_after b g s (rw (f.size, kept-room t work mid kept kept_mid first first_after a f) h)

    second-why : (n : ℕ) (p : Place) → FormRefused u (length work) (length kept) (length second) n p → (why : Refusal) × (number why ≡ n) × (b ≡ Err (fault why p))
    second-why n p h =
        form-refused u mid work_after kept_mid kept_after second second_after b g n p (rw (f.size, kept-room t work mid kept kept_mid first first_after a f) h)

    -- A call for the second text is refused.
    pub second-refused : (m : Refusal) (p : Place) → b ≡ Err (fault m p) → FormsCompared t u work work_after kept kept_after first first_after second second_after (Err (fault m p))
    second-refused m p x =
        record {
          decided = decided;
          told = λ r s h k. absurd (length-refused (sym (second-left s k).counted ∙ x));
          first_refused = λ o q h. absurd (first_taken o q h);
          second_refused = λ r o q h k. (refused-with x (second-why o q k), left-whole (form r) first first_after a (first-left r h), (formed-kept u mid work_after kept_mid kept_after second second_after b g).refused m p x);
          first_kept = λ o q h. absurd (first_taken o q h);
          both_kept = λ r h. stored;
          size = g.size ∙ f.size;
        }

    -- Both are written, and what was written is compared.
    module _ (m : ℕ) (x : b ≡ Ok m) (c : Result Bool (Fault Place)) (bytes : Tells (take n first_after ≡ take m second_after) c) where
      told-apart : (r s : Reading) → HasRoom t (length work) (length kept) (length first) r → HasRoom u (length work) (length kept) (length second) s
          → ToldApart r s first first_after second second_after c
      told-apart r s h k =
          let l = first-left r h in
          let o = second-left s k in
          let one : ◌≡◌ {A = Result ℕ (Fault Place)} (Ok (length (form r))) (Ok n) = sym l.counted ∙ e in
          let two : ◌≡◌ {A = Result ℕ (Fault Place)} (Ok (length (form s))) (Ok m) = sym o.counted ∙ x in
          let front : take n first_after ≡ form r = ap (λ i. take i first_after) (sym (same_length one)) ∙ l.result in
          let back : take m second_after ≡ form s = ap (λ i. take i second_after) (sym (same_length two)) ∙ o.result in
          let apart = forms-tell-texts-apart t u r s h.record_room.1 k.record_room.1 in
          record {
            first_form = left-whole (form r) first first_after a l;
            second_form = left-whole (form s) second second_after b o;
            bytes = rw (l.result, o.result) apart;
            agree = tells-also apart c (subst₂ (λ y z. Tells (y ≡ z) c) front back bytes);
          }

      pub both-compared : FormsCompared t u work work_after kept kept_after first first_after second second_after c
      both-compared =
          record {
            decided = decided;
            told = told-apart;
            first_refused = λ o q h. absurd (first_taken o q h);
            second_refused = λ r o q h k. absurd (length-refused (sym x ∙ (second-why o q k).2));
            first_kept = λ o q h. absurd (first_taken o q h);
            both_kept = λ r h. stored;
            size = g.size ∙ f.size;
          }
