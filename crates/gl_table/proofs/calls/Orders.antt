-- What a contract sees of the orders of the lists. For all calls that change a table.
use Rattle.gl_table.proofs.Words.{[], ◌∙◌, ◌≡◌, ap, Entry, Err, get_or, Inside, KeepsOrders, KeepsPlaces, keys_of, List, ListsKeepPlaces, ListsLose}
use Rattle.gl_table.proofs.Words.{LockList, map, NodeId, nodes_by, nodes_of, Ok, OnlyLoses, OnOk, Result, subst, TableView, view_of, ℕ}
use Rattle.gl_table.proofs.inside.Orders.{order_seen}
use Rattle.gl_table.proofs.inside.Places.{lists_keep}

-- no place rose in the lists, so none did in what a contract sees of them
orders_seen : (ls ls' : List LockList) → ListsKeepPlaces ls ls' → (v v' : TableView) → map (λ l. l.entries.entries) ls ≡ v.lists
    → map (λ l. l.entries.entries) ls' ≡ v'.lists → KeepsOrders v v'
orders_seen ls ls' keeps v v' is is' = record {
  each = λ t. subst (λ (order : List NodeId). KeepsPlaces order (nodes_of v' t))
      (order_seen ls t ∙ ap (λ (es : List (List (NodeId × Entry))). keys_of (get_or es t [])) is)
      (subst (KeepsPlaces (nodes_by ls t)) (order_seen ls' t ∙ ap (λ (es : List (List (NodeId × Entry))). keys_of (get_or es t [])) is') (keeps.each t));
}

-- in the terms of a table
pub orders_of : (i : Inside) {v v' : TableView} {ls' : List LockList} → view_of i ≡ v → ListsKeepPlaces i.locks.ledger.lists.items ls'
    → map (λ l. l.entries.entries) ls' ≡ v'.lists → KeepsOrders v v'
orders_of i {v} {v'} {ls'} is keeps after = orders_seen i.locks.ledger.lists.items ls' keeps v v' (ap (λ (w : TableView). w.lists) is) after

pub losses_of : (i : Inside) {v v' : TableView} {ls' : List LockList} → view_of i ≡ v → ListsLose i.locks.ledger.lists.items ls'
    → map (λ l. l.entries.entries) ls' ≡ v'.lists → KeepsOrders v v'
losses_of i is loses after = orders_of i is (lists_keep loses) after

-- what holds in any case holds of what was accepted
pub if_accepted : {T E : Type 0} (r : Result T E) {P : Type 0} → P → OnOk r P
if_accepted (Ok x) p = p
if_accepted (Err e) p = tt

-- the lists only lost nodes
pub lost_seen : (ls ls' : List LockList) → ListsLose ls ls' → (v v' : TableView) → map (λ l. l.entries.entries) ls ≡ v.lists
    → map (λ l. l.entries.entries) ls' ≡ v'.lists → (u : ℕ) → OnlyLoses (nodes_of v u) (nodes_of v' u)
lost_seen ls ls' loses v v' is is' u =
    subst (λ (order : List NodeId). OnlyLoses order (nodes_of v' u))
    (order_seen ls u ∙ ap (λ (es : List (List (NodeId × Entry))). keys_of (get_or es u [])) is)
    (subst (OnlyLoses (nodes_by ls u)) (order_seen ls' u ∙ ap (λ (es : List (List (NodeId × Entry))). keys_of (get_or es u [])) is') (loses.each u))
