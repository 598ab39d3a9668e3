-- The set of the nodes whose installers may act tells the truth after a node has changed and was looked at again.
use Rattle.std.proofs.Common.{◌≡◌, ◌≢◌, ℕ, ◌+◌, ◌<◌, ◌≤◌, ◌^◌, ◌⊎◌, Bool, false, List, [], ◌∷◌, length, set, refl, sym, ap, ◌∙◌, inl, inr, arith, ⊎_elim}
use Rattle.std.proofs.lemmas.Bool.{cases_eq}
use Rattle.std.proofs.lemmas.List.{get_or-set_other, length-map, length-set}
use Rattle.and_policy.specs.declared.entry.Entry.{Entry}
use Rattle.and_events.specs.declared.event.Given.{Given}
use Rattle.and_events.specs.Programming.{Programmes, Logs, Orders, Announces, Installs, programmes_after}
use Rattle.and_kept.specs.Numbers.{Numbers, has}
use Rattle.and_kept.specs.Nodes.{is_ready, AreReadied}
use Rattle.and_kept.proofs.OrdersLemmas.{given_size}

-- what `refresh` ensures
abbrev pub Refreshed : Programmes → List Bool → Numbers → Numbers → ℕ → ℕ → Type 0
Refreshed p held old new low high =
    (k : ℕ) → k < length p.ops → ((low ≤ k) × (k < high)) ⊎ (has old k ≡ is_ready p held k) → has new k ≡ is_ready p held k

-- all nodes were looked at
pub readied_anew : (p : Programmes) (held : List Bool) (old new : Numbers) (high : ℕ) → length p.ops < 2 ^ 16 → high ≡ length p.ops → length held ≡ length p.ops → new.size ≡ length p.ops → Refreshed p held old new 0 high → AreReadied p held new
readied_anew p held old new high few all long size again = record { few = few; held = long; size = size; told = λ k there. again k there (inl (omega arith, omega (arith, all, there))) }

module _ (p : Programmes) (held : List Bool) (old new : Numbers) (was : AreReadied p held old) where
  others_announce : (n k upto : ℕ) → k ≢ n → is_ready (programmes_after p (Announces n upto)) held k ≡ is_ready p held k
  unfolding is_ready programmes_after
  others_announce n k upto other = rw (get_or-set_other p.announced n k upto 0 other) refl

  others_install : (n k upto : ℕ) → k ≢ n → is_ready (programmes_after p (Installs n upto)) held k ≡ is_ready p held k
  unfolding is_ready programmes_after
  others_install n k upto other = rw (get_or-set_other p.installed n k upto 0 other) refl

  others_given : (g : Given) (k : ℕ) → k ≢ g.host → is_ready (programmes_after p (Orders (g ∷ []))) held k ≡ is_ready p held k
  unfolding is_ready programmes_after
  others_given g k other = rw (get_or-set_other p.ops g.host k _ [] other) refl

  others_hold : (n k : ℕ) (on : Bool) → k ≢ n → is_ready p (set held n on) k ≡ is_ready p held k
  unfolding is_ready
  others_hold n k on other = rw (get_or-set_other held n k on false other) refl

  again_at : (p' : Programmes) (held' : List Bool) (n : ℕ) → length p'.ops ≡ length p.ops → length held' ≡ length held → ((k : ℕ) → k ≢ n → is_ready p' held' k ≡ is_ready p held k)
      → new.size ≡ old.size → Refreshed p' held' old new n (n + 1) → AreReadied p' held' new
  again_at p' held' n ops marks others size again = record {
    few = omega (arith, was.few, ops);
    held = omega (arith, marks, was.held, ops);
    size = omega (arith, size, was.size, ops);
    told = λ k there. again k there
        (⊎_elim (λ (same : k ≡ n). inl (omega arith, omega arith))
        (λ (other : k ≢ n). inr (was.told k (omega (arith, there, ops)) ∙ sym (others k other))) (cases_eq k n));
  }

  pub readied_announce : (p' : Programmes) (n upto : ℕ) → p' ≡ programmes_after p (Announces n upto) → new.size ≡ old.size → Refreshed p' held old new n (n + 1) → AreReadied p' held new
  unfolding programmes_after
  readied_announce p' n upto is size again =
      again_at p' held n (ap (λ (q : Programmes). length q.ops) is) refl (λ k other. ap (λ (q : Programmes). is_ready q held k) is ∙ others_announce n k upto other) size again

  pub readied_install : (p' : Programmes) (n upto : ℕ) → p' ≡ programmes_after p (Installs n upto) → new.size ≡ old.size → Refreshed p' held old new n (n + 1) → AreReadied p' held new
  unfolding programmes_after
  readied_install p' n upto is size again =
      again_at p' held n (ap (λ (q : Programmes). length q.ops) is) refl (λ k other. ap (λ (q : Programmes). is_ready q held k) is ∙ others_install n k upto other) size again

  pub readied_given : (p' : Programmes) (g : Given) → p' ≡ programmes_after p (Orders (g ∷ [])) → new.size ≡ old.size → Refreshed p' held old new g.host (g.host + 1) → AreReadied p' held new
  readied_given p' g is size again =
      again_at p' held g.host (ap (λ (q : Programmes). length q.ops) is ∙ given_size p g) refl (λ k other. ap (λ (q : Programmes). is_ready q held k) is ∙ others_given g k other) size again

  pub readied_hold : (held' : List Bool) (n : ℕ) (on : Bool) → held' ≡ set held n on → new.size ≡ old.size → Refreshed p held' old new n (n + 1) → AreReadied p held' new
  readied_hold held' n on is size again =
      again_at p held' n refl (ap length is ∙ length-set held n on) (λ k other. ap (λ hs. is_ready p hs k) is ∙ others_hold n k on other) size again

pub logged_size : (p p' : Programmes) (e : Entry) → p' ≡ programmes_after p (Logs e) → length p'.ops ≡ length p.ops
unfolding programmes_after
logged_size p p' e is = ap (λ (q : Programmes). length q.ops) is ∙ length-map p.ops _

pub announced_size : (p p' : Programmes) (n upto : ℕ) → p' ≡ programmes_after p (Announces n upto) → length p'.ops ≡ length p.ops
unfolding programmes_after
announced_size p p' n upto is = ap (λ (q : Programmes). length q.ops) is

pub installed_size : (p p' : Programmes) (n upto : ℕ) → p' ≡ programmes_after p (Installs n upto) → length p'.ops ≡ length p.ops
unfolding programmes_after
installed_size p p' n upto is = ap (λ (q : Programmes). length q.ops) is
