pub mod Peer
