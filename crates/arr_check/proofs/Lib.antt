mod Wider
