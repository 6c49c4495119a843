-- Values fed in a row. Assumes nothing.
use Rattle.std.proofs.Common.{◌≡◌, ℕ, ◌+◌, ◌<◌, List, [], ◌∷◌, ◌++◌, length, get_or, take, ℤ, sym, ap, ◌∙◌, refl, subst, add-one}
use lib.Seq.{take-suc}
use Rattle.host.specs.Channels.{Channels}
use Rattle.regime.specs.Order.{Order}
use Rattle.engine.specs.Views.{Serves, frame_of, state_of}
use Rattle.engine.specs.declared.visit.Visit.{Visit}
use Rattle.meaning.specs.Answers.{feed, fed}
use Rattle.meaning.specs.Logs.{after}
use Rattle.strip.specs.declared.entry.Entry.{Entry}
use Rattle.strip_device.specs.Rows.{FedAll, PutAll, feeds}

-- a visit over a host, by what regime and host say of themselves
module _ {R H : Type 0} (order : R → Order) (channels : H → Channels) (puts : H → ℕ → ℤ → H → Type 0) where
  -- one more at the end
  fed_more : (es : List Entry) (e : Entry) (v u w : Visit R H) → FedAll order channels puts es v u → Serves order channels u (feed e.channel e.value) w fed → puts u.host e.channel e.value w.host → FedAll order channels puts (es ++ (e ∷ [])) v w
  fed_more [] e v u w p s q =
      (w, subst (λ x. Serves order channels x (feed e.channel e.value) w fed) p s, subst (λ x. puts x.host e.channel e.value w.host) p q, refl)
  fed_more (x ∷ es) e v u w (m, a, b, r) s q = (m, a, b, fed_more es e m u w r s q)

  -- the next of a row
  pub fed_next : (said : List Entry) (n : ℕ) (d : Entry) (x : ℤ) (v u w : Visit R H) → n < length said → x ≡ (get_or said n d).value → FedAll order channels puts (take n said) v u → Serves order channels u (feed (get_or said n d).channel x) w fed → puts u.host (get_or said n d).channel x w.host → FedAll order channels puts (take (n + 1) said) v w
  fed_next said n d x v u w lt is p s q =
      let e = get_or said n d in
      let row : take (n + 1) said ≡ take n said ++ (e ∷ []) = ap (λ m. take m said) (add-one n) ∙ take-suc said n d lt in
      subst (λ es. FedAll order channels puts es v w) (sym row)
      (fed_more (take n said) e v u w p (subst (λ y. Serves order channels u (feed e.channel y) w fed) is s) (subst (λ y. puts u.host e.channel y w.host) is q))

  -- what is fed is put
  pub puts_of : (es : List Entry) (v w : Visit R H) → FedAll order channels puts es v w → PutAll puts es v.host w.host
  puts_of [] v w p = ap (λ x. x.host) p
  puts_of (e ∷ es) v w (u, s, p, r) = (u.host, p, puts_of es u w r)

  -- the frame stays, and the state is where the feeds lead
  pub led : (es : List Entry) (v w : Visit R H) → FedAll order channels puts es v w → (frame_of order channels w ≡ frame_of order channels v) × (state_of channels w ≡ after (frame_of order channels v) (state_of channels v) (feeds es))
  led [] v w p = (ap (frame_of order channels) p, ap (state_of channels) p)
  led (e ∷ es) v w (u, s, p, r) =
      let rest = led es u w r in
      (rest.0 ∙ s.frame, rest.1 ∙ ap (λ f. after f (state_of channels u) (feeds es)) s.frame ∙ ap (λ t. after (frame_of order channels v) t (feeds es)) s.after)
