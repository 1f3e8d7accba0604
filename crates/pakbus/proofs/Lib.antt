mod PeerLemmas
