-- Texts that grow at their end.
use Rattle.std.proofs.Common.{◌≡◌, List, [], ◌∷◌, ◌++◌, ℕ, codes, refl, ap, sym, ◌∙◌}

pub append_assoc : {A : Type 0} (xs ys zs : List A) → (xs ++ ys) ++ zs ≡ xs ++ (ys ++ zs)
append_assoc [] ys zs = refl
append_assoc (x ∷ xs) ys zs = ap (λ l. x ∷ l) (append_assoc xs ys zs)

pub append_nil : {A : Type 0} (xs : List A) → xs ++ [] ≡ xs
append_nil [] = refl
append_nil (x ∷ xs) = ap (λ l. x ∷ l) (append_nil xs)

-- a text to which two pieces were added, one after the other
pub after_both : (old middle new first rest : List ℕ) → middle ≡ old ++ first → new ≡ middle ++ rest → new ≡ old ++ (first ++ rest)
after_both old middle new first rest one two = two ∙ ap (λ l. l ++ rest) one ∙ append_assoc old first rest

-- the line of a refused item
pub item_text : (number name : List ℕ) → ((codes "item " ++ number) ++ 32 ∷ []) ++ (name ++ 10 ∷ []) ≡ (codes "item" ++ 32 ∷ (number ++ 32 ∷ name)) ++ 10 ∷ []
item_text number name =
    let head : List ℕ → List ℕ = λ l. codes "item " ++ l in
    ap head (append_assoc number (32 ∷ []) (name ++ 10 ∷ []) ∙ sym (append_assoc number (32 ∷ name) (10 ∷ [])))

-- the line of a VM
pub vm_text : (name sent received : List ℕ) →
    (codes "vm " ++ name) ++ ((((codes " sent " ++ sent) ++ codes " received ") ++ received) ++ 10 ∷ [])
    ≡ (codes "vm" ++ 32 ∷ (name ++ 32 ∷ (codes "sent" ++ 32 ∷ (sent ++ 32 ∷ (codes "received" ++ 32 ∷ received))))) ++ 10 ∷ []
vm_text name sent received = simp append_assoc refl

-- the names of keyed lines
pub egress_words : (net number : List ℕ) →
    ((codes "drop egress " ++ net) ++ codes " rule ") ++ number ≡ codes "drop egress" ++ 32 ∷ (net ++ 32 ∷ (codes "rule" ++ 32 ∷ number))
egress_words net number = simp append_assoc refl

pub rule_words : (net number : List ℕ) →
    ((codes "drop ingress " ++ net) ++ codes " rule ") ++ number ≡ codes "drop ingress" ++ 32 ∷ (net ++ 32 ∷ (codes "rule" ++ 32 ∷ number))
rule_words net number = simp append_assoc refl

pub implied_words : (net : List ℕ) → (codes "drop ingress " ++ net) ++ codes " implied" ≡ codes "drop ingress" ++ 32 ∷ (net ++ 32 ∷ codes "implied")
implied_words net = simp append_assoc refl

pub route_words : (net number : List ℕ) → ((codes "drop route " ++ net) ++ 32 ∷ []) ++ number ≡ codes "drop route" ++ 32 ∷ (net ++ 32 ∷ number)
route_words net number = simp append_assoc refl
