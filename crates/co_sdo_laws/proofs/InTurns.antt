-- A transfer that waits for each answer, where it is permitted and undisturbed: it goes in turns.
use Rattle.std.proofs.Common.{◌≡◌, ℕ, zero, suc, ◌+◌, ◌<◌, ◌∷◌, Option, None, refl, sym, ap, ◌∙◌, arith, subst, inl, inr}
use Rattle.co_dict.specs.Rows.{Contents}
use Rattle.co_sdo.specs.Log.{Log, Ticked}
use Rattle.co_sdo.specs.Opened.{OpenTransfer}
use Rattle.co_sdo_laws.specs.World.{Setup}
use Rattle.co_sdo_laws.proofs.Channel.{Serves, serves_first, serves_ticked, IsServing, serving_ticks}
use Rattle.co_sdo_laws.proofs.Turns.{Takes, GoesOnWith, Turns}
use Rattle.co_sdo_laws.proofs.StopAndWait.{Parts, answer, Reacts, StopAndWait, Idle, Open, Reached, still, was_last, reacts}

-- after k requests nothing is open, or what the last of them opened; no entry is changed before the last one
pub record AtChannel (s : Setup) (t : Parts s) (k : ℕ) (log : Log) (contents : Contents) : Type 0 where
  pub first : k ≡ 0 → Idle s t log contents
  pub opens : (j : ℕ) → k ≡ suc j → j < t.last → Open s t j log contents
  pub closed : k ≡ 1 + t.last → Serves s.description.rows log None
  pub same : k < 1 + t.last → contents ≡ s.contents
  pub sets : k ≡ 1 + t.last → contents ≡ t.left s.contents

next_at : (s : Setup) (t : Parts s) (before : Contents) (k : ℕ) (log : Log) (contents : Contents) → before ≡ s.contents
    → Reached s t before k log contents → AtChannel s t (k + 1) log contents
next_at s t before k log contents e (still h kept) =
    let within = h.within in
    record {
      first = λ none. absurd (omega arith);
      opens = λ j is less. let same : k ≡ j = omega arith in subst (λ (i : ℕ). Open s t i log contents) same h;
      closed = λ all. absurd (omega arith);
      same = λ less. kept ∙ e;
      sets = λ all. absurd (omega arith);
    }
next_at s t before k log contents e (was_last last h left set) = record {
  first = λ none. absurd (omega arith);
  opens = λ j is less. absurd (omega arith);
  closed = λ all. h.serves;
  same = λ less. absurd (omega arith);
  sets = λ all. left ∙ ap t.left e;
}

takes_next : (s : Setup) {p : Type 0} (t : Parts s) → StopAndWait s p t → p → (k : ℕ) (current : Option OpenTransfer) (log : Log)
    (contents : Contents) → contents ≡ s.contents → IsServing s t.Lawful current log contents → Reacts s p t k current contents
    → Takes s log contents (t.request k) (answer s t k) (AtChannel s t (k + 1))
takes_next s t m x k current log contents e h r = elim (reacts s t m k current log contents h r) [
  | inl took ↦ record { replies = took.replies; next = next_at s t contents k _ _ e took.next }
  | inr refused ↦ absurd (refused.0 x e)
]

pub channel_takes : (s : Setup) {p : Type 0} (t : Parts s) → StopAndWait s p t → p → (k : ℕ) (log : Log) (contents : Contents)
    → k < 1 + t.last → AtChannel s t k log contents
    → Takes s log contents (t.request k) (answer s t k) (AtChannel s t (k + 1))
channel_takes s t m x zero log contents more h =
    let idle = h.first refl in
    takes_next s t m x 0 None log contents (h.same more) idle (m.begins None contents refl idle.lawful)
channel_takes s t m x (suc k) log contents more h =
    let opened = h.opens k refl (omega arith) in
    takes_next s t m x (suc k) _ log contents (h.same more) opened.serving (m.goes_on k contents opened.within opened.serving.lawful)

pub channel_ticks : (s : Setup) (t : Parts s) (k : ℕ) (log : Log) (contents : Contents) → AtChannel s t k log contents
    → AtChannel s t k (Ticked ∷ log) contents
channel_ticks s t k log contents h = record {
  first = λ e. serving_ticks s t.Lawful None log contents (h.first e);
  opens = λ j e less. let o = h.opens j e less in record { within = o.within; serving = serving_ticks s t.Lawful _ log contents o.serving };
  closed = λ e. serves_ticked _ _ _ (h.closed e);
  same = h.same;
  sets = h.sets;
}

pub one_more : (k : ℕ) → k + 1 ≡ suc k
one_more k = omega arith

abbrev pub turns_of : {p : Type 0} (s : Setup) (t : Parts s) → StopAndWait s p t → p → Turns s
turns_of s t m x = record {
  needed = 1 + t.last;
  value = t.value;
  request = t.request;
  answer = answer s t;
  Client = t.Client;
  Channel = AtChannel s t;
  some = omega arith;
  first_request = m.first_request;
  first_client = m.first_client;
  first_channel = record {
    first = λ e. record { serves = serves_first s.description.rows s.past m.idle; lawful = m.first_lawful };
    opens = λ j e less. absurd (omega arith);
    closed = λ e. absurd (omega arith);
    same = λ less. refl;
    sets = λ e. absurd (omega arith);
  };
  takes = channel_takes s t m x;
  channel_ticks = channel_ticks s t;
  goes_on = λ k events more h. elim (m.client_goes_on k events (omega arith) h) [
    | inl goes ↦ subst (λ (i : ℕ). GoesOnWith s events (answer s t k) (t.request i) (t.Client i)) (sym (one_more k)) goes
    | inr fault ↦ absurd (fault.0 x)
  ];
  ends = λ k events last h. elim (m.client_ends k events (omega arith) h) [
    | inl is ↦ is
    | inr fault ↦ absurd (fault.0 x)
  ];
  client_ticks = m.client_ticks;
}
